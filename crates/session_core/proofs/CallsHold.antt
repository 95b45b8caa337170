-- Calls one after another.
use Rattle.std.proofs.Common.{◌≡◌, ◌∙◌, List, [], ◌∷◌, Ok, Err, refl, ap, subst}
use Rattle.elf_read.specs.declared.exe.Exe.{Exe}
use Rattle.trace_set.specs.declared.error.SetError.TheVariants as set_errors
use Rattle.code_layout.specs.declared.built.BuildError.{BuildError}
use Rattle.code_layout.specs.declared.built.BuildError.TheVariants as refusals
use Rattle.session_core.specs.Session.{SessionView, new_session, traces_in, with_traces}
use Rattle.session_core.specs.Calls.{Call, Add, Remove, Emit, Does, DoEach, traces_after, traces_after_all, IsFileOf, AreFilesOf, SessionsHold}

-- what one call comes to
pub record Step (old : SessionView) (call : Call) (new : SessionView) : Type 0 where
  pub exe : new.exe ≡ old.exe
  pub file : IsFileOf old.exe (traces_in old) call
  pub traces : traces_in new ≡ traces_after (traces_in old) call

same_exe : (old new : SessionView) → new ≡ with_traces old (traces_in new) → new.exe ≡ old.exe
same_exe old new h = ap (λ (s : SessionView). s.exe) h

stays : (old new : SessionView) (answer : BuildError) → new ≡ old → Step old (Emit (Err answer)) new
stays old new answer h = record { exe = ap (λ (s : SessionView). s.exe) h; file = tt; traces = ap traces_in h }

step : (old : SessionView) (call : Call) (new : SessionView) → Does old call new → Step old call new
step old (Add edges (Ok number)) new d = record { exe = same_exe old new d.1; file = tt; traces = d.0.2 }
step old (Add edges (Err set_errors.Memory)) new d = record { exe = same_exe old new d.1; file = tt; traces = d.0.1 }
step old (Add edges (Err set_errors.Traces)) new d = record { exe = same_exe old new d.1; file = tt; traces = d.0.1 }
step old (Add edges (Err set_errors.Edges)) new d = record { exe = same_exe old new d.1; file = tt; traces = d.0.1 }
step old (Add edges (Err set_errors.Spent)) new d = record { exe = same_exe old new d.1; file = tt; traces = d.0.1 }
step old (Remove number (Ok done)) new d = record { exe = same_exe old new d.1; file = tt; traces = d.0.1 }
step old (Remove number (Err e)) new d = record { exe = same_exe old new d.1; file = tt; traces = d.0.1 }
step old (Emit (Ok file)) new d = record { exe = ap (λ (s : SessionView). s.exe) d.1; file = d.0; traces = ap traces_in d.1 }
step old (Emit (Err refusals.Blocks)) new d = stays old new refusals.Blocks d.1
step old (Emit (Err refusals.Code)) new d = stays old new refusals.Code d.1
step old (Emit (Err refusals.Memory)) new d = stays old new refusals.Memory d

each : (exe : Exe) (calls : List Call) (old last : SessionView) → old.exe ≡ exe → DoEach old calls last
    → AreFilesOf exe (traces_in old) calls × (traces_in last ≡ traces_after_all (traces_in old) calls)
each exe [] old last e d = (tt, ap traces_in d)
each exe (call ∷ more) old last e d =
    let s = step old call d.0 d.1 in
    let r = each exe more d.0 last (s.exe ∙ e) d.2 in (
      (subst (λ x. IsFileOf x (traces_in old) call) e s.file, subst (λ ts. AreFilesOf exe ts more) s.traces r.0),
      r.1 ∙ ap (λ ts. traces_after_all ts more) s.traces,
    )

pub hold : SessionsHold
hold exe calls last d = each exe calls (new_session exe) last refl d
