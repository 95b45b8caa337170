-- A session as it is seen after an emit.
use Rattle.std.proofs.Common.{◌≡◌, ℕ, List, Result, Ok, Err, OnErr, ap, ◌∙◌}
use Rattle.ssa_form.specs.declared.form.BlockKey.{BlockKey}
use Rattle.session_core.specs.Session.{SessionView, live_keys, to_make, emitted_from}

abbrev pub with_keys : SessionView → List BlockKey → ℕ → SessionView
with_keys s keys n = record { exe = s.exe; traces = s.traces; next = s.next; keys = keys; compiled = n }

pub emitted : {s t : SessionView} → s ≡ t → (keys : List BlockKey) (n : ℕ) → keys ≡ live_keys s → n ≡ to_make s → with_keys s keys n ≡ emitted_from t
emitted {s} {t} e keys n k m = ap (λ x. with_keys s x n) k ∙ ap (with_keys s (live_keys s)) m ∙ ap emitted_from e

-- what holds, holds where there was an error
pub on_any_error : {T E P : Type 0} (r : Result T E) → P → OnErr r P
on_any_error (Ok x) p = tt
on_any_error (Err e) p = p
