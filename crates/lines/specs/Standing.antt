-- For the code: what is added to a line that stands in a lent buffer.
-- Assumes nothing.
use Rattle.std.specs.Prelude.{ℕ, ◌+◌, ◌≡◌, List, length}
use Rattle.std.proofs.lemmas.List.Edits.{sets}
use Rattle.lines.specs.declared.Writer.{Writer}

-- the line `after` is the line `before` with the text behind it, in the same lent buffer
pub record Adds (before : Writer) (text : List ℕ) (after : Writer) : Type 0 where
  pub placed : after.out.now ≡ sets before.out.now before.length text
  pub reached : after.length ≡ before.length + length text
  pub lent : after.out.ghost_name ≡ before.out.ghost_name
