-- What a write comes to, by its definition.
use Rattle.std.proofs.Common.{◌≡◌, ℕ, List, [], get_or, Option, Some, None, Ok, Err, refl, sym, subst, arith}
use Rattle.br_word.specs.declared.types.GuestFault.TheVariants.{Access}
use Rattle.br_word.specs.State.{State, Faulted}
use Rattle.ia_inst.specs.System.{system, answers, buffer}
use Rattle.br_outside.specs.Outside.{StreamView}
use Rattle.guest_mem.specs.View.{MemoryView}
use Rattle.ia_meaning.specs.declared.cpu.Cpu.{Cpu}
use Rattle.guest_sys.specs.declared.answers.Called.{Called}
use Rattle.guest_sys.specs.declared.answers.Called.TheVariants.{Fault}
use Rattle.guest_sys.specs.declared.answers.SysError.TheVariants.{Out, Report, Memory}
use Rattle.br_outside.specs.declared.errors.SinkError.TheVariants as sink_errors
use Rattle.guest_sys.specs.Machine.{machine}
use Rattle.guest_sys.specs.Calls.{after_call, Calls}
use Rattle.guest_sys.specs.Parts.{WritesBuffer}
use Rattle.guest_sys.proofs.DoneCalls.{begin, had, told_had, leaves_same, gains_none, front_none, calls_by, quiet, answers_as}

-- the states after a write of some bytes
abbrev wrote_out : Cpu → MemoryView → List ℕ → List ℕ → State
wrote_out u m left bytes = record (answers (get_or u.regs 2 0) u.eip (begin u m left)) { out = bytes }

abbrev wrote_err : Cpu → MemoryView → List ℕ → List ℕ → State
wrote_err u m left bytes = record (answers (get_or u.regs 2 0) u.eip (begin u m left)) { err = bytes }

out_is : (u : Cpu) (m : MemoryView) (left bytes : List ℕ) → get_or u.regs 0 0 ≡ 4 → get_or u.regs 3 0 ≡ 1 → buffer (get_or u.regs 1 0) (get_or u.regs 2 0) m.regions ≡ Some bytes → after_call (begin u m left) ≡ wrote_out u m left bytes
unfolding system
out_is u m left bytes h g f = rw (h, g, f) refl

err_is : (u : Cpu) (m : MemoryView) (left bytes : List ℕ) → get_or u.regs 0 0 ≡ 4 → get_or u.regs 3 0 ≡ 2 → buffer (get_or u.regs 1 0) (get_or u.regs 2 0) m.regions ≡ Some bytes → after_call (begin u m left) ≡ wrote_err u m left bytes
unfolding system
err_is u m left bytes h g f = rw (h, g, f) refl

out_denied : (u : Cpu) (m : MemoryView) (left : List ℕ) → get_or u.regs 0 0 ≡ 4 → get_or u.regs 3 0 ≡ 1 → buffer (get_or u.regs 1 0) (get_or u.regs 2 0) m.regions ≡ None → after_call (begin u m left) ≡ record (begin u m left) { stop = Faulted (Access (get_or u.regs 1 0)) }
unfolding system
out_denied u m left h g f = rw (h, g, f) refl

err_denied : (u : Cpu) (m : MemoryView) (left : List ℕ) → get_or u.regs 0 0 ≡ 4 → get_or u.regs 3 0 ≡ 2 → buffer (get_or u.regs 1 0) (get_or u.regs 2 0) m.regions ≡ None → after_call (begin u m left) ≡ record (begin u m left) { stop = Faulted (Access (get_or u.regs 1 0)) }
unfolding system
err_denied u m left h g f = rw (h, g, f) refl

-- a call that is denied leaves all as it was
denied : (called : Called) (u v : Cpu) (m : MemoryView) (i o e a b : StreamView) → called ≡ Fault (Access (get_or u.regs 1 0)) → v ≡ u → a ≡ o → b ≡ e
    → after_call (begin u m (had i.bytes)) ≡ record (begin u m (had i.bytes)) { stop = Faulted (Access (get_or u.regs 1 0)) }
    → Calls (Ok called) (machine u m i o e) (machine v m i a b)
denied called u v m i o e a b is same out err h =
    let P : Cpu → Type 0 = λ v. Calls (Ok called) (machine u m i o e) (machine v m i a b) in
    let Q : StreamView → Type 0 = λ a. Calls (Ok called) (machine u m i o e) (machine u m i a b) in
    let R : StreamView → Type 0 = λ b. Calls (Ok called) (machine u m i o e) (machine u m i o b) in
    subst P (sym same) (subst Q (sym out) (subst R (sym err) (quiet called u u m m i o e _ h is refl refl refl refl refl)))

pub out_done : (called : Called) (u v : Cpu) (m : MemoryView) (i o e a : StreamView) (bytes : Option (List ℕ)) → get_or u.regs 0 0 ≡ 4 → get_or u.regs 3 0 ≡ 1 → buffer (get_or u.regs 1 0) (get_or u.regs 2 0) m.regions ≡ bytes
    → WritesBuffer bytes (Ok called) u v o a → Calls (Ok called) (machine u m i o e) (machine v m i a e)
out_done called u v m i o e a None h g f w = denied called u v m i o e a e w.0 w.1 w.2 refl (out_denied u m (had i.bytes) h g f)
out_done called u v m i o e a (Some bytes) h g f w = answers_as called u v m _ i a e _ w.0 w.1
    (calls_by _ _ _ (had i.bytes) (wrote_out u m (had i.bytes) bytes) (told_had i.bytes) (out_is u m (had i.bytes) bytes h g f) (record {
      answer = refl;
      machine = refl;
      undefined = refl;
      more = 0;
      few = omega arith;
      fits = λ k lt. absurd (omega arith);
      streams = record { input = leaves_same i (had i.bytes) (told_had i.bytes); out = w.2; err = gains_none e [] refl };
      idle = λ _. refl;
    }))

pub err_done : (called : Called) (u v : Cpu) (m : MemoryView) (i o e a : StreamView) (bytes : Option (List ℕ)) → get_or u.regs 0 0 ≡ 4 → get_or u.regs 3 0 ≡ 2 → buffer (get_or u.regs 1 0) (get_or u.regs 2 0) m.regions ≡ bytes
    → WritesBuffer bytes (Ok called) u v e a → Calls (Ok called) (machine u m i o e) (machine v m i o a)
err_done called u v m i o e a None h g f w = denied called u v m i o e o a w.0 w.1 refl w.2 (err_denied u m (had i.bytes) h g f)
err_done called u v m i o e a (Some bytes) h g f w = answers_as called u v m _ i o a _ w.0 w.1
    (calls_by _ _ _ (had i.bytes) (wrote_err u m (had i.bytes) bytes) (told_had i.bytes) (err_is u m (had i.bytes) bytes h g f) (record {
      answer = refl;
      machine = refl;
      undefined = refl;
      more = 0;
      few = omega arith;
      fits = λ k lt. absurd (omega arith);
      streams = record { input = leaves_same i (had i.bytes) (told_had i.bytes); out = gains_none o [] refl; err = w.2 };
      idle = λ _. refl;
    }))

pub out_fails : (u v : Cpu) (m : MemoryView) (i o e a : StreamView) (bytes : Option (List ℕ)) → get_or u.regs 0 0 ≡ 4 → get_or u.regs 3 0 ≡ 1 → buffer (get_or u.regs 1 0) (get_or u.regs 2 0) m.regions ≡ bytes
    → WritesBuffer bytes (Err sink_errors.Failed) u v o a → Calls (Err Out) (machine u m i o e) (machine v m i a e)
out_fails u v m i o e a None h g f w = absurd w
out_fails u v m i o e a (Some bytes) h g f w =
    calls_by _ _ _ (had i.bytes) (wrote_out u m (had i.bytes) bytes) (told_had i.bytes) (out_is u m (had i.bytes) bytes h g f) (w.0, refl, refl, (w.1, refl, refl))

pub err_fails : (u v : Cpu) (m : MemoryView) (i o e a : StreamView) (bytes : Option (List ℕ)) → get_or u.regs 0 0 ≡ 4 → get_or u.regs 3 0 ≡ 2 → buffer (get_or u.regs 1 0) (get_or u.regs 2 0) m.regions ≡ bytes
    → WritesBuffer bytes (Err sink_errors.Failed) u v e a → Calls (Err Report) (machine u m i o e) (machine v m i o a)
err_fails u v m i o e a None h g f w = absurd w
err_fails u v m i o e a (Some bytes) h g f w =
    calls_by _ _ _ (had i.bytes) (wrote_err u m (had i.bytes) bytes) (told_had i.bytes) (err_is u m (had i.bytes) bytes h g f) (w.0, refl, refl, (w.1, refl, refl))

-- memory ran out when a front part was written
pub out_no_memory : (u v : Cpu) (m : MemoryView) (i o e a : StreamView) (bytes : Option (List ℕ)) → get_or u.regs 0 0 ≡ 4 → get_or u.regs 3 0 ≡ 1 → buffer (get_or u.regs 1 0) (get_or u.regs 2 0) m.regions ≡ bytes
    → WritesBuffer bytes (Err sink_errors.Memory) u v o a → Calls (Err Memory) (machine u m i o e) (machine v m i a e)
out_no_memory u v m i o e a None h g f w = absurd w
out_no_memory u v m i o e a (Some bytes) h g f w = calls_by _ _ _ (had i.bytes) (wrote_out u m (had i.bytes) bytes) (told_had i.bytes) (out_is u m (had i.bytes) bytes h g f) (
  w.0,
  refl,
  refl,
  record {
    wanted = rw h refl;
    taken = 0;
    few = omega arith;
    input = leaves_same i (had i.bytes) (told_had i.bytes);
    out = w.1;
    err = front_none [] e;
  },
)

pub err_no_memory : (u v : Cpu) (m : MemoryView) (i o e a : StreamView) (bytes : Option (List ℕ)) → get_or u.regs 0 0 ≡ 4 → get_or u.regs 3 0 ≡ 2 → buffer (get_or u.regs 1 0) (get_or u.regs 2 0) m.regions ≡ bytes
    → WritesBuffer bytes (Err sink_errors.Memory) u v e a → Calls (Err Memory) (machine u m i o e) (machine v m i o a)
err_no_memory u v m i o e a None h g f w = absurd w
err_no_memory u v m i o e a (Some bytes) h g f w = calls_by _ _ _ (had i.bytes) (wrote_err u m (had i.bytes) bytes) (told_had i.bytes) (err_is u m (had i.bytes) bytes h g f) (
  w.0,
  refl,
  refl,
  record {
    wanted = rw h refl;
    taken = 0;
    few = omega arith;
    input = leaves_same i (had i.bytes) (told_had i.bytes);
    out = front_none [] o;
    err = w.1;
  },
)
