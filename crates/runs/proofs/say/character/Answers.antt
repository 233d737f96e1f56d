-- `character` meets its contract: the bytes of the value.
use Rattle.runs.proofs.Saying.{encoded-count, encoded-within, encoded-text}
use Rattle.runs.proofs.say.character.Goals as goal

pub slice_bounds-bytes-end : goal.slice_bounds-bytes-end
slice_bounds-bytes-end c = encoded-within _ _ c.encode-e.ensures

pub slice_bounds-lay-end : goal.slice_bounds-lay-end
slice_bounds-lay-end c = encoded-count _ _ c.encode-e.ensures

pub returns : goal.returns
returns c = record { laid = encoded-text _ _ c.encode-e.ensures _ _ _ _ c.lay.ensures.laid; ready = c.lay.ensures.ready }
