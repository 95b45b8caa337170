use Rattle.std.proofs.Common.{◌∙◌, length, sym, ap, arith}
use Rattle.std.specs.Prelude.{◌&&◌, not}
use Rattle.pass_dead.specs.Names.{set_of}
use Rattle.stub_sink.proofs.Bodies.{split_is}
use Rattle.stub_sink.proofs.parts.split.Goals as goal

pub returns : goal.returns
returns c =
    let b = c.args.b.now in
    let body = c.of.ensures in
    let sunk = c.of-2.ensures in
    let fall = c.as_slice-3.ensures.value in
    let other = c.as_slice-4.ensures.value in
    split_is b c.args.key.now c.as_slice-exits.result.now c.as_slice.result.now c.has_fallback-unknown.result c.live_at.result c.in_ok-fall.fall.items c.of.result c.of-2.result
    c.as_slice-exits.ensures (c.as_slice.ensures.value ∙ c.in_ok-known.ensures) c.has_fallback-unknown.ensures c.live_at.ensures c.in_ok-fall.ensures.marks
    (ap length body ∙ c.in_ok-body.ensures.length)
    (λ j l. ap (λ t. set_of t j) body ∙ c.in_ok-body.ensures.marks c.has_fallback-unknown.result (λ k m. ap (λ t. set_of t k) c.as_slice-2.ensures.value ∙ c.in_ok-fall.ensures.marks k m) j l)
    (ap length sunk ∙ c.in_ok-sunk.ensures.length ∙ ap length fall ∙ c.in_ok-fall.ensures.length)
    (λ j l. ap (λ t. set_of t j) sunk ∙ c.in_ok-sunk.ensures.marks j (omega (arith, ap length fall, c.in_ok-fall.ensures.length)) ∙ ap (λ t. set_of t j && not (set_of c.as_slice-4.result.now j)) fall ∙ ap (λ t. set_of c.in_ok-fall.fall.items j && not (set_of t j)) (other ∙ sym body))
