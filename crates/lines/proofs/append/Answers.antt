-- `append` meets its contract: what fits is copied.
use Rattle.lines.proofs.Pages.{put_copied}
use Rattle.lines.proofs.append.Goals as goal

pub returns : goal.returns
returns c = put_copied c.requires c.min-fitting.ensures c.copy_from_slice.ensures.after
