-- The marked cases run as written: each is computed from the definitions, step by step.
-- Assumes nothing.
use mathlib.Core.Path.{◌≡◌, refl}
use mathlib.Core.Bool.{true}
use Rattle.common.proofs.TestLaws.{and_both}
use Rattle.ledger.proofs.Computing.{computing}
use Rattle.cases.specs.Cases.{all_run, as_expected, run_from, runs, stand}
use Rattle.cases.specs.Table.{case_a, case_b, case_c, case_d, case_e, case_f, case_g, case_h, case_i, case_j, case_l, table}

-- unfolding this unfolds all that a case computes with
unfoldable running : Unit {0}
unfolding computing run_from as_expected stand
running = tt

case-A : runs case_a ≡ true
unfolding running case_a
case-A = refl

case-B : runs case_b ≡ true
unfolding running case_b
case-B = refl

case-C : runs case_c ≡ true
unfolding running case_c
case-C = refl

case-D : runs case_d ≡ true
unfolding running case_d
case-D = refl

case-E : runs case_e ≡ true
unfolding running case_e
case-E = refl

case-F : runs case_f ≡ true
unfolding running case_f
case-F = refl

case-G : runs case_g ≡ true
unfolding running case_g
case-G = refl

case-H : runs case_h ≡ true
unfolding running case_h
case-H = refl

case-I : runs case_i ≡ true
unfolding running case_i
case-I = refl

case-J : runs case_j ≡ true
unfolding running case_j
case-J = refl

case-L : runs case_l ≡ true
unfolding running case_l
case-L = refl

-- the single statement: every row of the table hands back what is written there
pub all-cases : all_run table ≡ true
unfolding all_run table
all-cases =
    and_both case-A
    (and_both case-B
    (and_both case-C
    (and_both case-D
    (and_both case-E
    (and_both case-F
    (and_both case-G
    (and_both case-H
    (and_both case-I
    (and_both case-J
    (and_both case-L
    refl))))))))))
