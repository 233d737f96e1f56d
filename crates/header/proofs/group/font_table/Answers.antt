-- `font_table` meets its contract: refused by 10, or as the group's tokens are read.
use Rattle.header.proofs.Entering.{fonts-read, fonts-bad}
use Rattle.std.proofs.lemmas.Result.{err_from_is_err_and}
use Rattle.header.proofs.group.font_table.Goals as goal

pub returns : goal.returns
returns c = fonts-read _ _ _ _ _ _ c.if-late.false (c.extent-h.ensures.0 _) c.extent-h.ensures.1 _ _ c.read_fonts.ensures c.in_ok-fonts.was

pub returns-in_err-fonts : goal.returns-in_err-fonts
returns-in_err-fonts c =
    let p = err_from_is_err_and c.from_residual.result c.from_residual.ensures.1 in
    rw (p.1, p.2) (fonts-bad _ _ _ _ _ _ c.if-late.false (c.extent-h.ensures.0 _) c.extent-h.ensures.1 _ _ c.read_fonts.ensures c.in_err-fonts.was)
