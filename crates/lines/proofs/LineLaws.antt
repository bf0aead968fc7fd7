-- How long a line is, and that a number in decimal says that number.
-- Assumes nothing.
use Prim.Native.Nat.{ℕ, ◌<◌, ◌≤◌, ◌^◌, min}
use mathlib.Core.Path.{◌≡◌}
use mathlib.Core.List.{List, [], ◌∷◌}
use native.Mathlib.Omega.{arith}
use lib.ListN.{get_or, length, length-append, length-take, take}
use mathlib.Core.Path.{ap, ◌∙◌}
use Rattle.std.proofs.Common.{rules}
use Rattle.std.proofs.lemmas.Fmt.{digits_value-decimal, first_decimal}
use Rattle.std.proofs.lemmas.Str.Parse.{IsNumeralModel, numerals_by_fold, tells_digits}
use Rattle.std.specs.Str.Parse.{AllDigits}
use Rattle.held.specs.Held.{limit}
use Rattle.records.specs.declared.Did.{Did}
use Rattle.records.specs.declared.Did.TheVariants.{SetUp, Step, Stop}
use Rattle.lines.specs.Decimal.{decimal, reads}
use Rattle.lines.specs.Lines.{group, line_of, printed, spaced, stop}
use Rattle.lines.proofs.DecimalLaws.{decimal-is, length_digits}
use Rattle.lines.proofs.TextLaws.{length-postings}

length-named : (word : List ℕ) (n : ℕ) → length word ≤ 5 → length (line_of word (decimal n ∷ [])) ≤ 27
unfolding spaced
length-named word n h =
    simp length-append (omega (arith, length_digits 20 n))

-- no line is longer than 1,024 bytes
pub printed-short : (did : Did) (offset : ℕ) (list : List ℕ) → length (printed did offset list) ≤ 1024
unfolding spaced
printed-short (SetUp n) offset list = let h = length-named group n (omega arith) in omega arith
printed-short (Step ledger given postings) offset list =
    let posted = take (min postings limit) list in
    simp length-append
    (omega (arith, length_digits 20 ledger, length_digits 20 given, length-postings posted, length-take (min postings limit) list))
printed-short Stop offset list = let h = length-named stop offset (omega arith) in omega arith

-- `reads` is a reading of numerals as the library means it
own : IsNumeralModel (AllDigits 10) (reads 0)
unfolding reads
own = numerals_by_fold _ tells_digits reads (search rules)

-- a number of 64 bits is said by its digits
pub decimal-read : (n : ℕ) → n < 2 ^ 64 → reads 0 (decimal n) ≡ n
decimal-read n h = ap (reads 0) (decimal-is n h) ∙ digits_value-decimal own n h

-- its first digit is not `0`, but for 0 itself
pub decimal-lead : (n : ℕ) → 1 ≤ n → n < 2 ^ 64 → 49 ≤ get_or (decimal n) 0 0
decimal-lead n some h = let lead = first_decimal n (omega arith) h in rw (decimal-is n h) (omega (arith, lead))
