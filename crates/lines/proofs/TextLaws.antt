-- Laws of text that stands in a buffer.
-- Assumes nothing.
use Prim.Native.Nat.{ℕ, ◌+◌, ◌*◌, ◌<◌, ◌≤◌}
use mathlib.Core.Path.{◌≡◌, refl, ap, ap₂, sym, ◌∙◌, subst}
use mathlib.Core.List.{List, [], ◌∷◌, ◌++◌, map, append_assoc, append-nil, map-append}
use native.Mathlib.Omega.{arith}
use lib.ListN.{get_or, length, length-append, take}
use mir.Syntax.{w32, w64}
use mir.Val.{Fits}
use lib.Seq.{sets}
use Rattle.std.proofs.lemmas.List.{take_more}
use Rattle.frame.proofs.Stores.{sets-append}
use Rattle.lines.specs.Lines.{Wrote, line_of, posting, spaced, wrote, writing}
use Rattle.lines.specs.Standing.{Adds}
use Rattle.lines.specs.declared.Writer.{Writer}
use Rattle.lines.proofs.DecimalLaws.{length_digits}

-- nothing yet
pub none : (w : Writer) → Adds w [] w
none w = record { placed = refl; reached = omega arith; lent = refl }

-- text behind text
pub then : {w mid new : Writer} {s t : List ℕ} → Adds w s mid → Adds mid t new → Adds w (s ++ t) new
then {w} {mid} {new} {s} {t} a b =
    record {
      placed = b.placed ∙ ap₂ (λ (l : List ℕ) (i : ℕ). sets l i t) a.placed a.reached ∙ sym (sets-append w.out.now w.length s t);
      reached = omega (arith, a.reached, b.reached, length-append s t);
      lent = b.lent ∙ a.lent;
    }

-- the same text, said otherwise
pub same : {w new : Writer} {s t : List ℕ} → s ≡ t → Adds w s new → Adds w t new
same {w} {new} e a = subst (λ (x : List ℕ). Adds w x new) e a

-- a number of 32 bits is one of 64
pub wide : {x : ℕ} → Fits w32 x → Fits w64 x
wide f = record { fits = omega (arith, f.fits) }

-- a whole line
pub whole : {w new : Writer} {text : List ℕ} → w.length ≡ 0 → Adds w text new → wrote new.length new.out.now ≡ writing text w.out.now
whole {w} {new} {text} z a =
    ap₂ {C = Wrote} (λ (n : ℕ) (b : List ℕ). record { length = n; buffer = b })
    (omega (arith, a.reached, z))
    (a.placed ∙ ap (λ (n : ℕ). sets w.out.now n text) z)

-- the parts of a line
pub named-line : (word n : List ℕ) → word ++ (32 ∷ []) ++ n ++ (10 ∷ []) ≡ line_of word (n ∷ [])
unfolding spaced
named-line word n = simp (append-nil, append_assoc)

pub step_line : (first answer : List ℕ) (items : List (List ℕ))
    → first ++ (32 ∷ answer) ++ spaced items ++ (10 ∷ []) ≡ line_of first (answer ∷ items)
unfolding spaced
step_line first answer items = simp append_assoc

-- one item more
pub spaced-append : (xs ys : List (List ℕ)) → spaced (xs ++ ys) ≡ spaced xs ++ spaced ys
unfolding spaced
spaced-append [] ys = refl
spaced-append (x ∷ xs) ys = ap (λ (l : List ℕ). 32 ∷ l) (ap (λ (l : List ℕ). x ++ l) (spaced-append xs ys)
    ∙ sym (append_assoc x (spaced xs) (spaced ys)))

pub spaced-more : (f : ℕ → List ℕ) (list : List ℕ) (i : ℕ) → i < length list
    → spaced (map f (take i list)) ++ (32 ∷ f (get_or list i 0)) ≡ spaced (map f (take (i + 1) list))
unfolding spaced
spaced-more f list i h =
    sym (ap (λ (l : List ℕ). spaced (map f l)) (take_more list i 0 h)
    ∙ ap spaced (map-append f (take i list) (get_or list i 0 ∷ []))
    ∙ spaced-append (map f (take i list)) (f (get_or list i 0) ∷ [])
    ∙ ap (λ (l : List ℕ). spaced (map f (take i list)) ++ (32 ∷ l)) (append-nil (f (get_or list i 0))))

-- a posting takes at most 22 bytes: a space, a letter and 20 digits
pub length-postings : (list : List ℕ) → length (spaced (map posting list)) ≤ 22 * length list
unfolding spaced
length-postings [] = omega arith
length-postings (n ∷ list) =
    let more = length-postings list in
    omega (arith, length_digits 20 n, length-append (posting n) (spaced (map posting list)))
