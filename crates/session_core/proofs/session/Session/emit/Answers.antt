use Rattle.std.proofs.Common.{◌≡◌, ◌+◌, ◌≤◌, sym, ap, subst, ◌∙◌}
use Rattle.std.specs.List.Sorted.{IsStrictlyIncreasing}
use Rattle.std.proofs.lemmas.Result.{err_from_is_err_and}
use Rattle.code_layout.specs.Keys.{keys_of}
use Rattle.code_layout.specs.Image.{built_of, HasTooManyBlocks, IsTooLong}
use Rattle.session_core.specs.Session.{SessionView, edges_in, live_edges, fresh, to_make}
use Rattle.session_core.specs.Kept.{starts_of_keys, codes_of}
use Rattle.session_core.proofs.Seen.{emitted, on_any_error}
use Rattle.session_core.proofs.session.Session.emit.Goals as goal

pub emit_now-requires-clause-order : goal.emit_now-requires-clause-order
emit_now-requires-clause-order g c = subst (λ k. IsStrictlyIncreasing (starts_of_keys k)) (sym c.as_slice-before.ensures.value) c.self.invariant.order

pub emit_now-requires-clause-codes : goal.emit_now-requires-clause-codes
emit_now-requires-clause-codes g c =
    c.as_slice-kept.ensures.value ∙ c.self.invariant.codes ∙ ap (codes_of c.self.inside.exe) (sym c.as_slice-before.ensures.value)

pub returns-clause-built : goal.returns-clause-built
returns-clause-built g c = subst (λ (s : SessionView). c.in_ok-made.made.file ≡ built_of s.exe (live_edges s)) c.self.view_is c.in_ok-made.ensures.file

pub returns-clause-after : goal.returns-clause-after
returns-clause-after g c = emitted c.self.view_is c.in_ok-made.made.keys.items c.in_ok-made.made.made c.in_ok-made.ensures.keys
    (c.in_ok-made.ensures.made ∙ ap (λ k. fresh k (keys_of c.self.inside.exe (edges_in c.self.inside.set))) c.as_slice-before.ensures.value)

pub returns-clause-done : goal.returns-clause-done
returns-clause-done g c = subst (λ (s : SessionView). c.emit_now.new.steps ≡ c.args.steps.now + to_make s) c.self.view_is
    (c.in_ok-made.ensures.done ∙ ap (λ k. c.args.steps.now + fresh k (keys_of c.self.inside.exe (edges_in c.self.inside.set))) c.as_slice-before.ensures.value)

pub returns-clause-at_most : goal.returns-clause-at_most
returns-clause-at_most g c = subst (λ (s : SessionView). c.emit_now.new.steps ≤ c.args.steps.now + to_make s) c.self.view_is
    (subst (λ k. c.emit_now.new.steps ≤ c.args.steps.now + fresh k (keys_of c.self.inside.exe (edges_in c.self.inside.set))) c.as_slice-before.ensures.value c.emit_now.ensures.at_most)

pub returns-clause-few : goal.returns-clause-few
returns-clause-few g c = subst (λ (s : SessionView). HasTooManyBlocks s.exe (live_edges s) → ⊥) c.self.view_is c.in_ok-made.ensures.few

pub returns-clause-short : goal.returns-clause-short
returns-clause-short g c = subst (λ (s : SessionView). IsTooLong s.exe (live_edges s) → ⊥) c.self.view_is c.in_ok-made.ensures.short

pub returns-in_err-made-clause-at_most : goal.returns-in_err-made-clause-at_most
returns-in_err-made-clause-at_most g c = subst (λ (s : SessionView). c.emit_now.new.steps ≤ c.args.steps.now + to_make s) c.self.view_is
    (subst (λ k. c.emit_now.new.steps ≤ c.args.steps.now + fresh k (keys_of c.self.inside.exe (edges_in c.self.inside.set))) c.as_slice-before.ensures.value c.emit_now.ensures.at_most)

pub returns-in_err-made-clause-same : goal.returns-in_err-made-clause-same
returns-in_err-made-clause-same g c = on_any_error c.from_residual.result c.self.view_is

pub returns-in_err-made-clause-blocks : goal.returns-in_err-made-clause-blocks
returns-in_err-made-clause-blocks g c =
    let p = err_from_is_err_and c.from_residual.result c.from_residual.ensures.1 in
    rw (p.1, p.2) (λ e. subst (λ (s : SessionView). HasTooManyBlocks s.exe (live_edges s)) c.self.view_is (c.in_err-made.ensures.blocks e))

pub returns-in_err-made-clause-code : goal.returns-in_err-made-clause-code
returns-in_err-made-clause-code g c =
    let p = err_from_is_err_and c.from_residual.result c.from_residual.ensures.1 in
    rw (p.1, p.2) (λ e. subst (λ (s : SessionView). (HasTooManyBlocks s.exe (live_edges s) → ⊥) × IsTooLong s.exe (live_edges s)) c.self.view_is (c.in_err-made.ensures.code e))
