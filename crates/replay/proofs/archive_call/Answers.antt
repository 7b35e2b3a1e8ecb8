use Rattle.std.proofs.Common.{◌≡◌, ℕ, List, arith, w8, Fits}
use Rattle.sheet.specs.Sheet.{primary_line}
use Rattle.sheet.proofs.RangeLaws.{primary_line_in}
use Rattle.replay.proofs.archive_call.Goals as goal

-- a sheet's own primary adapter is a byte
own-fits : {n : ℕ} (ls : List (List ℕ)) → n ≡ primary_line ls → Fits w8 n
own-fits ls e = record { fits = omega (arith, e, primary_line_in ls) }

pub overflow_cast-result : goal.overflow_cast-result
overflow_cast-result c = own-fits _ c.tergyosul_sheet_primary.ensures
