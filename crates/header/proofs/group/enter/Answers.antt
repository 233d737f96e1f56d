-- `enter` meets its contract, by what the bracket begins.
use Rattle.header.proofs.Entering.{enter-nothing, enter-hide, enter-fonts, enter-colours}
use Rattle.header.proofs.group.enter.Goals as goal

pub returns-in-Nothing : goal.returns-in-Nothing
returns-in-Nothing c = enter-nothing _ _ _ _ _ _ _ _ _ (c.aim_of-a.ensures _) c.in-Nothing.is

pub returns-in-Hide : goal.returns-in-Hide
returns-in-Hide c = enter-hide _ _ _ _ _ _ _ _ _ (c.aim_of-a.ensures _) c.in-Hide.is (c.extent.ensures.0 _) c.extent.ensures.1

pub returns-in-Fonts : goal.returns-in-Fonts
returns-in-Fonts c = enter-fonts _ _ _ _ _ _ _ _ _ (c.aim_of-a.ensures _) _ _ c.in-Fonts.is c.font_table.ensures

pub returns-in-Colours : goal.returns-in-Colours
returns-in-Colours c = enter-colours _ _ _ _ _ _ _ _ _ (c.aim_of-a.ensures _) _ _ c.in-Colours.is (c.colour_table.ensures.0 _, c.colour_table.ensures.1)
