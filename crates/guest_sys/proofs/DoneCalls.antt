-- What the calls come to, by the definition of each.
use Rattle.std.proofs.Common.{◌≡◌, ℕ, ◌-◌, ◌%◌, ◌^◌, ◌<◌, ◌≤◌, Bool, true, false, nat_eq, if◌then◌else◌, List, [], ◌++◌, length, take, drop, get_or, map, Option, Some, None, IfSome, IsSome, is_some, option_map, Result, Ok, Err, refl, sym, ◌∙◌, ap, subst, arith, IsTrue, inl, inr}
use Rattle.std.proofs.lemmas.Bool.Decides.{nat_tests, leb_tells}
use Rattle.std.proofs.lemmas.List.{append-nil, take_all, length-take, length-take-le}
use Rattle.br_word.specs.declared.types.GuestFault.TheVariants.{Access}
use Rattle.br_word.specs.Memory.{Region, Writes, bytes_at, resized}
use Rattle.br_word.specs.State.{State, Running, Exited, Faulted}
use Rattle.ia_inst.specs.System.{On, system, answers, filled, call_brk}
use Rattle.ia_inst.specs.Step.{settled}
use Rattle.br_outside.specs.Outside.{StreamView}
use Rattle.guest_mem.specs.View.{MemoryView, with_break, in_reach}
use Rattle.ia_meaning.specs.declared.cpu.Cpu.{Cpu}
use Rattle.guest_sys.specs.declared.answers.Called.{Called}
use Rattle.guest_sys.specs.declared.answers.Called.TheVariants.{Goes, Exit, Fault}
use Rattle.guest_sys.specs.declared.answers.SysError.{SysError}
use Rattle.guest_sys.specs.declared.answers.SysError.TheVariants.{Input, Out, Report, Memory}
use Rattle.br_outside.specs.Streams.{Tells, Leaves, Gains}
use Rattle.guest_sys.specs.Machine.{Machine, machine, state_of, fed, bare}
use Rattle.guest_sys.specs.Calls.{asks, takes_memory, after_call, answer_of, GainsFront, CallGives, Calls}
use Rattle.guest_sys.specs.Parts.{IsWanted, Takes, Fills, with_eax}
use Rattle.guest_sys.proofs.BufferAccess.{denied_more, written_none, none_written}
use Rattle.guest_sys.proofs.PutBytes.{filled_some, wanted_all}
use Rattle.guest_sys.proofs.TakenBytes.{steady_same}

-- the state in which a call begins
abbrev pub begin : Cpu → MemoryView → List ℕ → State
begin u m left = fed left (state_of u m)

-- the input of a source that tells, and else none
abbrev pub had : Option (List ℕ) → List ℕ
had None = []
had (Some left) = left

pub told_had : (o : Option (List ℕ)) → IfSome o (λ told. told ≡ had o)
told_had None = tt
told_had (Some left) = refl

had_left : (o : Option (List ℕ)) → IfSome o (λ left. o ≡ Some (had o))
had_left None = tt
had_left (Some left) = refl

left_same : (o : Option (List ℕ)) (left : List ℕ) → IfSome o (λ told. told ≡ left) → IfSome o (λ told. o ≡ Some left)
left_same None left h = tt
left_same (Some told) left h = ap Some h

pub leaves_same : (v : StreamView) (left : List ℕ) → Tells left v → Leaves left v v
leaves_same v left h = record { bytes = left_same v.bytes left h; steady = steady_same v }

given_none : (o : Option (List ℕ)) → o ≡ option_map (λ written. written ++ []) o
given_none None = refl
given_none (Some w) = ap Some (sym (append-nil w))

pub gains_none : (v : StreamView) (more : List ℕ) → more ≡ [] → Gains more v v
gains_none v more e =
    let P : List ℕ → Type 0 = λ t. v.bytes ≡ option_map (λ written. written ++ t) v.bytes in
    record { bytes = subst P (sym e) (given_none v.bytes); steady = steady_same v; idle = λ _. refl }

-- a sink as it was: the front part that it was given is empty
pub front_none : (bytes : List ℕ) (v : StreamView) → GainsFront bytes v v
front_none bytes v = record { written = 0; given = given_none v.bytes; steady = steady_same v }

pub as_before : (m n : MemoryView) → n ≡ m → n ≡ (let k : MemoryView = record m { regions = n.regions } in k)
as_before m n same = same ∙ ap (λ (k : MemoryView). let l : MemoryView = record m { regions = k.regions } in l) (sym same)

pub calls_by : (r : Result Called SysError) (old new : Machine) (left : List ℕ) (t : State) → Tells left old.streams.input
    → after_call (begin old.cpu old.memory left) ≡ t → CallGives r (begin old.cpu old.memory left) t old new → Calls r old new
calls_by r old new left t told e g =
    let P : State → Type 0 = λ t. CallGives r (begin old.cpu old.memory left) t old new in
    record { left = left; told = told; gives = subst P (sym e) g }

-- ---- calls that touch no stream

-- t is the state afterwards, with the input that it had
pub quiet : (called : Called) (u v : Cpu) (m n : MemoryView) (i o e : StreamView) (t : State) → after_call (begin u m (had i.bytes)) ≡ t
    → called ≡ answer_of t.stop → state_of v n ≡ bare (record t { stop = Running }) → v.undefined ≡ u.undefined
    → t.input ≡ had i.bytes → t.out ≡ [] → t.err ≡ [] → Calls (Ok called) (machine u m i o e) (machine v n i o e)
quiet called u v m n i o e t h a b d left out err =
    let P : List ℕ → Type 0 = λ l. Leaves l i i in
    calls_by _ _ _ (had i.bytes) t (told_had i.bytes) h (record {
      answer = a;
      machine = b;
      undefined = d;
      more = 0;
      few = omega arith;
      fits = λ k lt. absurd (omega arith);
      streams = record {
        input = subst P (sym left) (leaves_same i (had i.bytes) (told_had i.bytes));
        out = gains_none o t.out out;
        err = gains_none e t.err err;
      };
      idle = λ _. refl;
    })

pub exits : (u : Cpu) (m : MemoryView) (i o e : StreamView) → get_or u.regs 0 0 ≡ 1 → Calls (Ok (Exit (get_or u.regs 3 0 % 256))) (machine u m i o e) (machine u m i o e)
unfolding system
exits u m i o e h = quiet _ u u m m i o e (record (begin u m (had i.bytes)) { stop = Exited (get_or u.regs 3 0 % 256) }) (rw h refl) refl refl refl refl refl refl

is_no : (n k : ℕ) → (n ≡ k → ⊥) → nat_eq n k ≡ false
is_no n k h = grind (arith, nat_tests)

-- the state after a call that only answers
abbrev answered : ℕ → Cpu → MemoryView → List ℕ → State
answered value u m left = answers value u.eip (begin u m left)

pub bad_read : (u : Cpu) (m : MemoryView) (i o e : StreamView) → get_or u.regs 0 0 ≡ 3 → (get_or u.regs 3 0 ≡ 0 → ⊥) → Calls (Ok Goes) (machine u m i o e) (machine (with_eax (2 ^ 32 - 9) u) m i o e)
unfolding system
bad_read u m i o e h d = quiet _ u _ m m i o e (answered (2 ^ 32 - 9) u m (had i.bytes)) (rw (h, is_no (get_or u.regs 3 0) 0 d) refl) refl refl refl refl refl refl

pub bad_write : (u : Cpu) (m : MemoryView) (i o e : StreamView) → get_or u.regs 0 0 ≡ 4 → (get_or u.regs 3 0 ≡ 1 → ⊥) → (get_or u.regs 3 0 ≡ 2 → ⊥) → Calls (Ok Goes) (machine u m i o e) (machine (with_eax (2 ^ 32 - 9) u) m i o e)
unfolding system
bad_write u m i o e h d f = quiet _ u _ m m i o e (answered (2 ^ 32 - 9) u m (had i.bytes)) (rw (h, is_no (get_or u.regs 3 0) 1 d, is_no (get_or u.regs 3 0) 2 f) refl) refl refl refl refl refl refl

pub bad_number : (u : Cpu) (m : MemoryView) (i o e : StreamView) → (get_or u.regs 0 0 ≡ 1 → ⊥) → (get_or u.regs 0 0 ≡ 3 → ⊥) → (get_or u.regs 0 0 ≡ 4 → ⊥) → (get_or u.regs 0 0 ≡ 45 → ⊥) → Calls (Ok Goes) (machine u m i o e) (machine (with_eax (2 ^ 32 - 38) u) m i o e)
unfolding system
bad_number u m i o e a b d f = quiet _ u _ m m i o e (answered (2 ^ 32 - 38) u m (had i.bytes))
    (rw (is_no (get_or u.regs 0 0) 1 a, is_no (get_or u.regs 0 0) 3 b, is_no (get_or u.regs 0 0) 4 d, is_no (get_or u.regs 0 0) 45 f) refl) refl refl refl refl refl refl

-- ---- brk

-- the state after brk, by the memory afterwards
abbrev moved : Cpu → MemoryView → List ℕ → State
moved u n left = record (answers n.brk u.eip (begin u n left)) { brk = n.brk }

brk_moves : (b : Bool) (u : Cpu) (m n : MemoryView) (left : List ℕ) → settled (if b
    then On (record (answers n.brk u.eip (begin u m left)) { brk = n.brk; regions = n.regions; brk_start = n.brk_start })
    else On (answers m.brk u.eip (begin u m left))) (begin u m left) ≡ moved u (if b then n else m) left
brk_moves true u m n left = refl
brk_moves false u m n left = refl

pub breaks : (u : Cpu) (m n : MemoryView) (i o e : StreamView) (value : ℕ) → get_or u.regs 0 0 ≡ 45 → n ≡ with_break (get_or u.regs 3 0) m → value ≡ n.brk → Calls (Ok Goes) (machine u m i o e) (machine (with_eax value u) n i o e)
unfolding system
breaks u m n i o e value h is v =
    let to = get_or u.regs 3 0 in
    let s = begin u m (had i.bytes) in
    let a : after_call s ≡ settled (call_brk u.eip s) s = rw h refl in
    let b : after_call s ≡ moved u (with_break to m) (had i.bytes) = a ∙ brk_moves (in_reach m.brk_start to) u m (record m { brk = to; regions = map (resized m.brk_start (to - m.brk_start)) m.regions }) (had i.bytes) in
    let P : MemoryView → Type 0 = λ n. after_call s ≡ moved u n (had i.bytes) in
    let Q : ℕ → Type 0 = λ value. Calls (Ok Goes) (machine u m i o e) (machine (with_eax value u) n i o e) in
    subst Q (sym v) (quiet Goes u (with_eax n.brk u) m n i o e (moved u n (had i.bytes)) (subst P (sym is) b) refl refl refl refl refl refl)

-- a call that wanted memory before it took or wrote anything
pub no_memory : (u : Cpu) (m n : MemoryView) (i o e : StreamView) → IsTrue (takes_memory (begin u m (had i.bytes))) → n ≡ m → Calls (Err Memory) (machine u m i o e) (machine u n i o e)
no_memory u m n i o e h same = calls_by _ _ _ (had i.bytes) _ (told_had i.bytes) refl (
  refl,
  as_before m n same,
  ap (λ (k : MemoryView). k.regions) same,
  record {
    wanted = h;
    taken = 0;
    few = omega arith;
    input = leaves_same i (had i.bytes) (told_had i.bytes);
    out = front_none _ o;
    err = front_none _ e;
  },
)

pub breaks_not : (u : Cpu) (m n : MemoryView) (i o e : StreamView) → get_or u.regs 0 0 ≡ 45 → n ≡ m → Calls (Err Memory) (machine u m i o e) (machine u n i o e)
breaks_not u m n i o e h same = no_memory u m n i o e (rw h refl) same

pub answers_as : (called : Called) (u v : Cpu) (n : MemoryView) (old : Machine) (i o e : StreamView) (value : ℕ) → called ≡ Goes → v ≡ with_eax value u
    → Calls (Ok Goes) old (machine (with_eax value u) n i o e) → Calls (Ok called) old (machine v n i o e)
answers_as called u v n old i o e value a b h =
    let P : Called → Type 0 = λ called. Calls (Ok called) old (machine (with_eax value u) n i o e) in
    let Q : Cpu → Type 0 = λ v. Calls (Ok called) old (machine v n i o e) in
    subst Q (sym b) (subst P (sym a) h)

-- ---- read

zero_is : (n : ℕ) → n ≤ 0 → nat_eq n 0 ≡ true
zero_is n h = grind (arith, nat_tests)

filled_none : (at : ℕ) (new : List ℕ) (rs : List Region) → length new ≤ 0 → filled at new rs ≡ Some rs
filled_none at new rs h = rw (zero_is (length new) h) refl

some_not : {A : Type 0} (o : Option A) (x : A) → o ≡ Some x → o ≡ None → ⊥
some_not o x a b = cc

-- what is not filled is some bytes that may not be written
not_filled : (at : ℕ) (new : List ℕ) (rs : List Region) → filled at new rs ≡ None → (0 < length new) × (bytes_at Writes at (length new) rs ≡ None)
not_filled at new rs h = elim (leb_tells (length new) 0) [
  | inl a ↦ absurd (some_not _ rs (filled_none at new rs a.1) h)
  | inr b ↦ (b.1, none_written at new rs (sym (filled_some at new rs b.1) ∙ h))
]

filled_not : (at : ℕ) (new : List ℕ) (rs : List Region) → 0 < length new → bytes_at Writes at (length new) rs ≡ None → filled at new rs ≡ None
filled_not at new rs pos h = filled_some at new rs pos ∙ written_none at new rs h

some_is : {A : Type 0} (o : Option A) → (o ≡ None → ⊥) → IsSome o
some_is None h = absurd (h refl)
some_is (Some x) h = refl

-- the bytes that were taken are all that the call asks for, if they fit
enough : (at len most : ℕ) (bytes left : List ℕ) (rs ss : List Region) → IsWanted at len rs most → bytes ≡ take most left → filled at bytes rs ≡ Some ss → bytes ≡ take len left
enough at len most bytes left rs ss w first f = elim (leb_tells len most) [
  | inl a ↦ (let e : most ≡ len = omega (arith, w.within, a.1) in first ∙ ap (λ n. take n left) e)
  | inr b ↦ (let stops = w.stops b.1 in
      let short : length bytes < most = elim (leb_tells most (length bytes)) [
        | inl c ↦ (let e : length bytes ≡ most = omega (arith, c.1, ap length first, length-take most left) in
            let P : ℕ → Type 0 = λ n. bytes_at Writes at n rs ≡ None in
            absurd (some_not _ ss f (filled_not at bytes rs (omega (arith, stops.0)) (subst P (sym e) stops.1))))
        | inr d ↦ d.1
      ] in
      let all : length left ≤ most = omega (arith, ap length first, length-take most left) in
      first ∙ (take_all most left all ∙ sym (take_all len left (omega (arith, w.within)))))
]

-- if they do not fit, neither does all that it asks for
too_many : (at len most : ℕ) (bytes left : List ℕ) (rs : List Region) → IsWanted at len rs most → bytes ≡ take most left → filled at bytes rs ≡ None → filled at (take len left) rs ≡ None
too_many at len most bytes left rs w first f =
    let n = not_filled at bytes rs f in
    let le : length bytes ≤ length (take len left) = omega (arith, ap length first, length-take most left, length-take len left, w.within) in
    filled_not at (take len left) rs (omega (arith, n.0)) (denied_more Writes at (length bytes) (length (take len left)) rs le n.1)

fit : (at len most : ℕ) (bytes left : List ℕ) (rs : List Region) → IsWanted at len rs most → bytes ≡ take most left → (k : ℕ) → k < length bytes → IsSome (filled at (take k left) rs)
fit at len most bytes left rs w first k lt =
    let same : length (take k left) ≡ k = length-take-le k left (omega (arith, ap length first, length-take most left)) in
    some_is _ (λ e. let n = not_filled at (take k left) rs e in
    let P : ℕ → Type 0 = λ n. bytes_at Writes at n rs ≡ None in
    w.fits k (omega (arith, ap length first, length-take most left)) (omega (arith, n.0)) (subst P same n.1))

asks_is : (u : Cpu) (m : MemoryView) (left : List ℕ) → get_or u.regs 0 0 ≡ 3 → get_or u.regs 3 0 ≡ 0 → asks (begin u m left) ≡ get_or u.regs 2 0
asks_is u m left h g = rw (h, g) refl

pub reads : (u : Cpu) (m n : MemoryView) (i j o e : StreamView) (most : ℕ) (bytes : List ℕ) → get_or u.regs 0 0 ≡ 3 → get_or u.regs 3 0 ≡ 0
    → IsWanted (get_or u.regs 1 0) (get_or u.regs 2 0) m.regions most → Takes most (Ok bytes) i j
    → (ss : List Region) → filled (get_or u.regs 1 0) bytes m.regions ≡ Some ss → n ≡ record m { regions = ss }
    → Calls (Ok Goes) (machine u m i o e) (machine (with_eax (length bytes) u) n j o e)
unfolding system
reads u m n i j o e most bytes h g w t ss f is =
    let first = enough _ _ most bytes t.left m.regions ss w t.gives.first f in
    let after : State = record (answers (length bytes) u.eip (begin u m t.left)) { regions = ss; input = drop (length bytes) t.left } in
    let P : MemoryView → Type 0 = λ n. Calls (Ok Goes) (machine u m i o e) (machine (with_eax (length bytes) u) n j o e) in
    subst P (sym is) (calls_by _ _ _ t.left after t.told (rw (h, g, sym first, f) refl) (record {
      answer = refl;
      machine = refl;
      undefined = refl;
      more = 0;
      few = omega arith;
      fits = λ k lt. absurd (omega arith);
      streams = record { input = t.gives.rest; out = gains_none o [] refl; err = gains_none e [] refl };
      idle = λ z. t.gives.idle (omega (arith, w.within, asks_is u m t.left h g));
    }))

pub read_faults : (u : Cpu) (m : MemoryView) (i j o e : StreamView) (most : ℕ) (bytes : List ℕ) → get_or u.regs 0 0 ≡ 3 → get_or u.regs 3 0 ≡ 0
    → IsWanted (get_or u.regs 1 0) (get_or u.regs 2 0) m.regions most → Takes most (Ok bytes) i j
    → filled (get_or u.regs 1 0) bytes m.regions ≡ None
    → Calls (Ok (Fault (Access (get_or u.regs 1 0)))) (machine u m i o e) (machine u m j o e)
unfolding system
read_faults u m i j o e most bytes h g w t f =
    let after : State = record (begin u m t.left) { stop = Faulted (Access (get_or u.regs 1 0)) } in
    calls_by _ _ _ t.left after t.told (rw (h, g, too_many _ _ most bytes t.left m.regions w t.gives.first f) refl) (record {
      answer = refl;
      machine = refl;
      undefined = refl;
      more = length bytes;
      few = omega (arith, asks_is u m t.left h g, w.within, ap length t.gives.first, length-take most t.left);
      fits = fit _ _ most bytes t.left m.regions w t.gives.first;
      streams = record { input = t.gives.rest; out = gains_none o [] refl; err = gains_none e [] refl };
      idle = λ z. t.gives.idle (omega (arith, w.within, asks_is u m t.left h g));
    })

pub read_fails : (u : Cpu) (m : MemoryView) (i j o e : StreamView) (most : ℕ) (x : SysError) → get_or u.regs 0 0 ≡ 3 → get_or u.regs 3 0 ≡ 0
    → IsWanted (get_or u.regs 1 0) (get_or u.regs 2 0) m.regions most → Takes most (Err x) i j
    → Calls (Err x) (machine u m i o e) (machine u m j o e)
read_fails u m i j o e most Input h g w t = calls_by _ _ _ t.left _ t.told refl (
  refl,
  refl,
  (0, omega (arith, t.gives.0.few, w.within, asks_is u m t.left h g), refl),
  record {
    taken = t.gives.0.taken;
    few = omega (arith, t.gives.0.few, w.within, asks_is u m t.left h g);
    left = t.gives.0.rest;
    fails = t.gives.1;
    out = refl;
    err = refl;
  },
)
read_fails u m i j o e most Memory h g w t = calls_by _ _ _ t.left _ t.told refl (
  refl,
  refl,
  refl,
  record {
    wanted = rw h refl;
    taken = t.gives.0.taken;
    few = omega (arith, t.gives.0.few, w.within, asks_is u m t.left h g);
    input = record { bytes = t.gives.0.rest; steady = t.gives.1 };
    out = front_none _ o;
    err = front_none _ e;
  },
)
read_fails u m i j o e most Out h g w t = absurd t.gives
read_fails u m i j o e most Report h g w t = absurd t.gives

-- the same of a call that answers so
pub read_failed : (r : Result Called SysError) (u : Cpu) (m : MemoryView) (i j o e : StreamView) (most : ℕ) (x : SysError) → get_or u.regs 0 0 ≡ 3 → get_or u.regs 3 0 ≡ 0
    → IsWanted (get_or u.regs 1 0) (get_or u.regs 2 0) m.regions most → Takes most (Err x) i j → r ≡ Err x
    → Calls r (machine u m i o e) (machine u m j o e)
read_failed r u m i j o e most x h g w t is =
    let P : Result Called SysError → Type 0 = λ r. Calls r (machine u m i o e) (machine u m j o e) in
    subst P (sym is) (read_fails u m i j o e most x h g w t)

pub faults_as : (called fault : Called) (u : Cpu) (m n : MemoryView) (old : Machine) (i o e : StreamView) → called ≡ fault → n ≡ m
    → Calls (Ok fault) old (machine u m i o e) → Calls (Ok called) old (machine u n i o e)
faults_as called fault u m n old i o e a b h =
    let P : Called → Type 0 = λ called. Calls (Ok called) old (machine u m i o e) in
    let Q : MemoryView → Type 0 = λ n. Calls (Ok called) old (machine u n i o e) in
    subst Q (sym b) (subst P (sym a) h)

pub counts_as : (called : Called) (u v : Cpu) (n : MemoryView) (old : Machine) (i o e : StreamView) (value count : ℕ) → called ≡ Goes → v ≡ with_eax value u → value ≡ count
    → Calls (Ok Goes) old (machine (with_eax count u) n i o e) → Calls (Ok called) old (machine v n i o e)
counts_as called u v n old i o e value count a b same h =
    let P : ℕ → Type 0 = λ value. Calls (Ok Goes) old (machine (with_eax value u) n i o e) in
    answers_as called u v n old i o e value a b (subst P (sym same) h)

-- ---- a read whose bytes all have room

none_not : {A : Type 0} (o : Option A) → is_some o ≡ true → o ≡ None → ⊥
none_not None h e = cc
none_not (Some x) h e = cc

pub fill_reads : (called : Called) (u v : Cpu) (m n : MemoryView) (i j o e : StreamView) (value count : ℕ) → get_or u.regs 0 0 ≡ 3 → get_or u.regs 3 0 ≡ 0
    → is_some (bytes_at Writes (get_or u.regs 1 0) (get_or u.regs 2 0) m.regions) ≡ true → Fills (get_or u.regs 1 0) (get_or u.regs 2 0) (Ok count) m n i j
    → called ≡ Goes → v ≡ with_eax value u → value ≡ count → Calls (Ok called) (machine u m i o e) (machine v n j o e)
fill_reads called u v m n i j o e value count h g able f a b same =
    let all = wanted_all (get_or u.regs 1 0) (get_or u.regs 2 0) m.regions (λ pos. none_not _ able) in
    counts_as called u v n (machine u m i o e) j o e value (length f.0) a b (omega (arith, same, f.1))
    (reads u m n i j o e (get_or u.regs 2 0) f.0 h g all f.3 n.regions f.2.regions f.2.rest)

pub fill_fails : (r : Result Called SysError) (u : Cpu) (m n : MemoryView) (i j o e : StreamView) (x : SysError) → get_or u.regs 0 0 ≡ 3 → get_or u.regs 3 0 ≡ 0
    → Fills (get_or u.regs 1 0) (get_or u.regs 2 0) (Err x) m n i j → r ≡ Err x → Calls r (machine u m i o e) (machine u n j o e)
fill_fails r u m n i j o e x h g f is =
    let P : Result Called SysError → Type 0 = λ r. Calls r (machine u m i o e) (machine u n j o e) in
    subst P (sym is) (go x f)
  where
    go : (x : SysError) → Fills (get_or u.regs 1 0) (get_or u.regs 2 0) (Err x) m n i j → Calls (Err x) (machine u m i o e) (machine u n j o e)
    go Input f =
        let few : f.0.gives.0.taken < asks (begin u m f.0.left) = omega (arith, f.0.gives.0.few, asks_is u m f.0.left h g) in
        calls_by _ _ _ f.0.left _ f.0.told refl (
          refl,
          f.1.rest,
          (f.0.gives.0.taken, few, f.1.regions),
          record {
            taken = f.0.gives.0.taken;
            few = few;
            left = f.0.gives.0.rest;
            fails = f.0.gives.1;
            out = refl;
            err = refl;
          },
        )
    go Out f = absurd f
    go Report f = absurd f
    go Memory f = absurd f
