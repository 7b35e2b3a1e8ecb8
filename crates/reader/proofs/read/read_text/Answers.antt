use Rattle.reader.proofs.ReadLaws.{records-fit, records_in, records-taken, lexed-no, lexed-yes, lexed-words}
use Rattle.reader.proofs.read.read_text.Goals as goal

pub overflow_mul-t : goal.overflow_mul-t
overflow_mul-t c = search records-fit

pub slice_bounds-t-end : goal.slice_bounds-t-end
slice_bounds-t-end c = search records_in

pub slice_bounds-t-end-in-Ok : goal.slice_bounds-t-end-in-Ok
slice_bounds-t-end-in-Ok c = search records-taken

pub returns-in-Err : goal.returns-in-Err
returns-in-Err c = (search lexed-no, search lexed-words)

pub returns-in-Ok : goal.returns-in-Ok
returns-in-Ok c = (search lexed-yes, search lexed-words)
