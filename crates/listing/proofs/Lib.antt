-- Parts: the parts of a list.
mod Parts
