-- A system call as a step.
use Rattle.std.proofs.Common.{◌≡◌, ℕ, true, List, [], None, Ok, Err, refl, sym, ◌∙◌, ap, subst, arith, IsTrue, ◌⊎◌, inl, inr}
use Rattle.br_word.specs.declared.types.GuestFault.{GuestFault}
use Rattle.br_word.specs.Memory.{Region}
use Rattle.br_word.specs.State.{State, RunState, Running, Exited, Faulted}
use Rattle.ia_inst.specs.System.{StepResult, On, Bad, system}
use Rattle.ia_inst.specs.Step.{settled}
use Rattle.br_outside.specs.Outside.{StreamView}
use Rattle.guest_mem.specs.View.{MemoryView}
use Rattle.ia_meaning.specs.declared.cpu.Cpu.{Cpu}
use Rattle.guest_sys.specs.declared.answers.Called.{Called}
use Rattle.guest_sys.specs.declared.answers.Called.TheVariants.{Goes, Exit, Fault}
use Rattle.guest_sys.specs.declared.answers.SysError.{SysError}
use Rattle.guest_sys.specs.declared.answers.SysError.TheVariants.{Input, Out, Report, Memory}
use Rattle.br_outside.specs.Streams.{Streams}
use Rattle.guest_sys.specs.Machine.{machine, state_of, fed}
use Rattle.guest_sys.specs.Calls.{asks, takes_memory, after_call, spare, Passes, Does, InputFails, SinkFails, MemoryFails, FailsAt, LeavesRegions, CallGives, Calls}
use Rattle.guest_sys.specs.Calls as calls
use Rattle.guest_run.specs.declared.stop.Stop as answer
use Rattle.guest_run.specs.declared.stop.Stop.TheVariants as answers
use Rattle.guest_run.specs.declared.advance.Advanced.{Advanced}
use Rattle.guest_run.specs.Guest.{answer_of}
use Rattle.guest_run.specs.Advance.{Expected, Advances, AdvanceFails, Trap}
use Rattle.guest_run.proofs.CallResults.{system_eip, IsDone, system_done, system_silent, asks_read}

-- the answer of a call, as the stop of a run
abbrev pub stop_as : Called → answer.Stop
stop_as Goes = answers.Budget
stop_as (Exit status) = answers.Exited status
stop_as (Fault f) = answers.Fault f

stop_is : (s : RunState) → stop_as (calls.answer_of s) ≡ answer_of s
stop_is Running = refl
stop_is (Exited status) = refl
stop_is (Faulted f) = refl

abbrev pub IsNoFault : Called → Type 0
IsNoFault Goes = Unit {0}
IsNoFault (Exit status) = Unit {0}
IsNoFault (Fault f) = ⊥

-- the expectation of a step that goes this way
abbrev pub of_way : State → StepResult → Expected
of_way s w = record { after = settled w s; edge = None; undefined = 0; trap = true }

abbrev stopped : answer.Stop → Advanced
stopped stop = record { stop = stop; edge = None }

-- s is the state at the instruction, and eip of u stands behind it
done_at : (at : ℕ) (left : List ℕ) (u v : Cpu) (m n : MemoryView) (b a : Streams) (called : Called) (w : StepResult) → IsNoFault called
    → Does (fed left (state_of u m)) (settled w (fed left (state_of u m))) called (record { cpu = u; memory = m; streams = b }) (record { cpu = v; memory = n; streams = a })
    → Advances (fed left (state_of (record u { eip = at }) m)) (of_way (fed left (state_of (record u { eip = at }) m)) w) (stopped (stop_as called)) (record { cpu = record u { eip = at }; memory = m; streams = b }) (record { cpu = v; memory = n; streams = a })
done_at at left u v m n b a called (On t) sound d = record {
  stop = ap stop_as d.answer ∙ stop_is t.stop;
  edge = refl;
  state = d.machine;
  undefined = omega (arith, d.undefined);
  more = d.more;
  few = d.few;
  streams = d.streams;
  idle = d.idle;
}
done_at at left u v m n b a called (Bad f) sound d = absurd (subst IsNoFault d.answer sound)

fault_same : (f g : GuestFault) → Fault f ≡ Fault g → answers.Fault f ≡ answers.Fault g
fault_same f g e = let h : f ≡ g = cc in ap answers.Fault h

no_fault : (f : GuestFault) (s : RunState) → (s ≡ Running) ⊎ ((n : ℕ) × (s ≡ Exited n)) → Fault f ≡ calls.answer_of s → ⊥
no_fault f s (inl r) e = let h = e ∙ ap calls.answer_of r in cc
no_fault f s (inr x) e = let h = e ∙ ap calls.answer_of x.1 in cc

fault_at : (at : ℕ) (left : List ℕ) (u v : Cpu) (m n : MemoryView) (b a : Streams) (f : GuestFault) (w : StepResult) → IsDone w
    → Does (fed left (state_of u m)) (settled w (fed left (state_of u m))) (Fault f) (record { cpu = u; memory = m; streams = b }) (record { cpu = v; memory = n; streams = a })
    → Advances (fed left (state_of (record u { eip = at }) m)) (of_way (fed left (state_of (record u { eip = at }) m)) w) (stopped (answers.Fault f)) (record { cpu = record u { eip = at }; memory = m; streams = b }) (record { cpu = record v { eip = at }; memory = n; streams = a })
fault_at at left u v m n b a f (On t) done d = absurd (no_fault f t.stop done d.answer)
fault_at at left u v m n b a f (Bad g) done d = record {
  stop = fault_same f g d.answer;
  edge = refl;
  state = ap (λ (s : State). record s { eip = at }) d.machine;
  undefined = omega (arith, d.undefined);
  more = d.more;
  few = d.few;
  streams = record { input = d.streams.input; out = d.streams.out; err = d.streams.err };
  idle = d.idle;
}

wants : (e : SysError) (s t : State) (b a : Streams) → IsTrue (takes_memory s) ⊎ ((t.out ≡ []) × (t.err ≡ [])) → FailsAt e s t b a → IsTrue (takes_memory s)
wants Input s t b a w f = asks_read s f.taken f.few
wants Memory s t b a w f = f.wanted
wants Out s t b a (inl h) f = h
wants Out s t b a (inr h) f = absurd (f.0.some h.0)
wants Report s t b a (inl h) f = h
wants Report s t b a (inr h) f = absurd (f.0.some h.1)

fails_at : (at : ℕ) (e : SysError) (left : List ℕ) (u : Cpu) (m : MemoryView) (b a : Streams) (w : StepResult)
    → FailsAt e (fed left (state_of u m)) (settled w (fed left (state_of u m))) b a
    → FailsAt e (fed left (state_of (record u { eip = at }) m)) (settled w (fed left (state_of (record u { eip = at }) m))) b a
fails_at at Input left u m b a w f = record { taken = f.taken; few = f.few; left = f.left; fails = f.fails; out = f.out; err = f.err }
fails_at at Memory left u m b a (On t) f = record { wanted = f.wanted; taken = f.taken; few = f.few; input = f.input; out = f.out; err = f.err }
fails_at at Memory left u m b a (Bad g) f = record { wanted = f.wanted; taken = f.taken; few = f.few; input = f.input; out = f.out; err = f.err }
fails_at at Out left u m b a (On t) f = f
fails_at at Out left u m b a (Bad g) f = f
fails_at at Report left u m b a (On t) f = f
fails_at at Report left u m b a (Bad g) f = f

leaves_at : (at : ℕ) (e : SysError) (left : List ℕ) (u : Cpu) (m : MemoryView) (rs : List Region) → LeavesRegions e (fed left (state_of u m)) rs
    → LeavesRegions e (fed left (state_of (record u { eip = at }) m)) rs
leaves_at at Input left u m rs h = h
leaves_at at Out left u m rs h = h
leaves_at at Report left u m rs h = h
leaves_at at Memory left u m rs h = h

pub trap_done : (at : ℕ) (u v : Cpu) (m n : MemoryView) (i o e j p f : StreamView) (called : Called) → IsNoFault called
    → Calls (Ok called) (machine u m i o e) (machine v n j p f) → Trap at (Ok (stopped (stop_as called))) (machine u m i o e) (machine v n j p f)
trap_done at u v m n i o e j p f called sound c =
    let s = fed c.left (state_of u m) in
    let t = fed c.left (state_of (record u { eip = at }) m) in
    let P : StepResult → Type 0 = λ w. Advances t (of_way t w) (stopped (stop_as called)) (machine (record u { eip = at }) m i o e) (machine v n j p f) in
    record { left = c.left; told = c.told; gives = subst P (sym (system_eip u.eip at s)) (done_at at c.left u v m n _ _ called (system u.eip s) sound c.gives) }

pub trap_fault : (at : ℕ) (u v : Cpu) (m n : MemoryView) (i o e j p f : StreamView) (g : GuestFault)
    → Calls (Ok (Fault g)) (machine u m i o e) (machine v n j p f) → Trap at (Ok (stopped (answers.Fault g))) (machine u m i o e) (machine (record v { eip = at }) n j p f)
trap_fault at u v m n i o e j p f g c =
    let s = fed c.left (state_of u m) in
    let t = fed c.left (state_of (record u { eip = at }) m) in
    let P : StepResult → Type 0 = λ w. Advances t (of_way t w) (stopped (answers.Fault g)) (machine (record u { eip = at }) m i o e) (machine (record v { eip = at }) n j p f) in
    record { left = c.left; told = c.told; gives = subst P (sym (system_eip u.eip at s)) (fault_at at c.left u v m n _ _ g (system u.eip s) (system_done u.eip s refl) c.gives) }

pub trap_fails : (at : ℕ) (u v : Cpu) (m n : MemoryView) (i o e j p f : StreamView) (x : SysError)
    → Calls (Err x) (machine u m i o e) (machine v n j p f) → Trap at (Err x) (machine u m i o e) (machine (record v { eip = at }) n j p f)
trap_fails at u v m n i o e j p f x c =
    let s = fed c.left (state_of u m) in
    let t = fed c.left (state_of (record u { eip = at }) m) in
    let P : StepResult → Type 0 = λ w. AdvanceFails x t (of_way t w) (machine (record u { eip = at }) m i o e) (machine (record v { eip = at }) n j p f) in
    record {
      left = c.left;
      told = c.told;
      gives = subst P (sym (system_eip u.eip at s)) (record {
        trap = refl;
        call = wants x s (after_call s) _ _ (system_silent u.eip s) c.gives.3;
        cpu = ap (λ (w : Cpu). record w { eip = at }) c.gives.0;
        memory = c.gives.1;
        regions = leaves_at at x c.left u m n.regions c.gives.2;
        streams = fails_at at x c.left u m _ _ (system u.eip s) c.gives.3;
      });
    }
