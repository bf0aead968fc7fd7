use mathlib.Core.Path.{refl, ap, sym, ◌∙◌}
use lib.ListN.{drop, length, take}
use lib.Seq.{take_at}
use Rattle.frame.specs.Frames.{told}
use Rattle.frame.proofs.FrameLaws.{wrote-buffer}
use Rattle.frame.proofs.RoundTrip.{read-written}
use Rattle.tied.proofs.read_is_written.Goals as goal

pub returns : goal.returns
returns c =
    let bytes = c.args.bytes.now in
    let buffer = c.args.buffer.now in
    λ e l.
    let again = read-written bytes buffer c.in-Ok.f (λ i. (c.type_inv.bytes i).fits)
    (ap told (sym c.in-Ok.is) ∙ c.read.ensures) l in
    let done = sym (wrote-buffer c.write.result _) ∙ ap (λ w. w.buffer) (c.write.ensures ∙ again) in
    ap (take (length bytes)) done ∙ take_at bytes (drop (length bytes) buffer) (length bytes) refl
