-- `blank` meets its contract: each word is zero.
use borrow.Author.Rules.{rules}
use Rattle.styles.specs.Styles.{style_at, no_style}
use Rattle.styles.proofs.Style.blank.Goals as goal

pub returns : goal.returns
unfolding style_at no_style
returns c = search rules
