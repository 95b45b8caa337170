-- System calls from states that differ in eip, and how they leave the guest.
use Rattle.std.proofs.Common.{◌≡◌, ℕ, ◌+◌, ◌-◌, ◌%◌, ◌^◌, ◌<◌, ◌≤◌, Bool, true, false, nat_eq, ◌&&◌, ◌||◌, if◌then◌else◌, List, ◌++◌, get_or, take, drop, length, map, nat_le, Option, Some, None, refl, ◌∙◌, ap, arith, IsTrue, ◌⊎◌, inl, inr}
use Rattle.br_word.specs.State.{State, RunState, Running, Exited, Faulted}
use Rattle.br_word.specs.Memory.{Region, resized}
use Rattle.ia_inst.specs.System.{StepResult, On, Bad, or_bad, answers, buffer, filled, call_exit, call_read, call_write, call_brk, system}
use Rattle.ia_inst.specs.Act.{Completion, Next, Denied, Divided, Called, perform}
use Rattle.ia_inst.specs.Step.{Found, NoCode, NoInst, There, found, act_of, result_of, result_at, settled}
use Rattle.guest_run.specs.Guest.{asks_by, traps_at, ahead}
use Rattle.guest_sys.specs.Calls.{spare}
use Rattle.guest_sys.specs.Calls.{asks, takes_memory}

pub system_eip : (next at : ℕ) (s : State) → system next (record s { eip = at }) ≡ system next s
unfolding system
system_eip next at s = refl

-- a call that is done leaves the guest running or has made it exit; only a write writes
abbrev pub IsFine : State → StepResult → Type 0
IsFine s (On t) = ((t.stop ≡ s.stop) ⊎ ((n : ℕ) × (t.stop ≡ Exited n))) × (IsTrue (takes_memory s) ⊎ ((t.out ≡ s.out) × (t.err ≡ s.err)))
IsFine s (Bad f) = Unit {0}

exit_fine : (s : State) (next : ℕ) → IsFine s (call_exit next s)
exit_fine s next = let e : (n : ℕ) × (Exited (get_or s.cpu.regs 3 0 % 256) ≡ Exited n) = (get_or s.cpu.regs 3 0 % 256, refl) in (inr e, inr (refl, refl))

read_fine : (s : State) (next at : ℕ) (new : List ℕ) (b : Bool) (o : Option (List Region))
    → IsFine s (if b then or_bad at o (λ rs. On (record (answers (length new) next s) { regions = rs; input = drop (length new) s.input })) else On (answers (2 ^ 32 - 9) next s))
read_fine s next at new true None = tt
read_fine s next at new true (Some rs) = (inl refl, inr (refl, refl))
read_fine s next at new false o = (inl refl, inr (refl, refl))

write_fine : (s : State) (next at n : ℕ) (b c : Bool) (o : Option (List ℕ)) → IsTrue (takes_memory s)
    → IsFine s (if b then or_bad at o (λ bs. On (record (answers n next s) { out = s.out ++ bs })) else if c then or_bad at o (λ bs. On (record (answers n next s) { err = s.err ++ bs })) else On (answers (2 ^ 32 - 9) next s))
write_fine s next at n true c None h = tt
write_fine s next at n true c (Some bs) h = (inl refl, inl h)
write_fine s next at n false true None h = tt
write_fine s next at n false true (Some bs) h = (inl refl, inl h)
write_fine s next at n false false o h = (inl refl, inl h)

brk_fine : (s : State) (next to : ℕ) (rs : List Region) (b : Bool)
    → IsFine s (if b then On (record (answers to next s) { brk = to; regions = rs }) else On (answers s.brk next s))
brk_fine s next to rs true = (inl refl, inr (refl, refl))
brk_fine s next to rs false = (inl refl, inr (refl, refl))

choose_fine : (s : State) (p q r t : Bool) (a b c d f : StepResult) → IsFine s a → IsFine s b → (r ≡ true → IsFine s c) → IsFine s d → IsFine s f
    → IsFine s (if p then a else if q then b else if r then c else if t then d else f)
choose_fine s true q r t a b c d f u v x y z = u
choose_fine s false true r t a b c d f u v x y z = v
choose_fine s false false true t a b c d f u v x y z = x refl
choose_fine s false false false true a b c d f u v x y z = y
choose_fine s false false false false a b c d f u v x y z = z

second : (a b c : Bool) → b ≡ true → IsTrue (a || (b || c))
second true b c h = refl
second false true c h = refl
second false false c h = absurd (cc)

system_fine : (next : ℕ) (s : State) → IsFine s (system next s)
unfolding system
system_fine next s =
    let at = get_or s.cpu.regs 1 0 in
    let n = get_or s.cpu.regs 2 0 in
    let d = get_or s.cpu.regs 3 0 in
    let number = get_or s.cpu.regs 0 0 in
    choose_fine s (nat_eq number 1) (nat_eq number 3) (nat_eq number 4) (nat_eq number 45)
    (call_exit next s) (call_read next s) (call_write next s) (call_brk next s) (On (answers (2 ^ 32 - 38) next s))
    (exit_fine s next)
    (read_fine s next at (take n s.input) (nat_eq d 0) (filled at (take n s.input) s.regions))
    (λ e. write_fine s next at n (nat_eq d 1) (nat_eq d 2) (buffer at n s.regions) (second (nat_eq number 3) (nat_eq number 4) (nat_eq number 45) e))
    (brk_fine s next d (map (resized s.brk_start (d - s.brk_start)) s.regions) (nat_le s.brk_start d && nat_le d (s.brk_start + 67108864)))
    (inl refl, inr (refl, refl))

-- a way that goes on leaves the guest running or has made it exit
abbrev pub IsDone : StepResult → Type 0
IsDone (On t) = (t.stop ≡ Running) ⊎ ((n : ℕ) × (t.stop ≡ Exited n))
IsDone (Bad f) = Unit {0}

done_of : (w : StepResult) (s : State) → s.stop ≡ Running → IsFine s w → IsDone w
done_of (On t) s h f = elim f.0 [ inl e ↦ inl (e ∙ h) | inr x ↦ inr x ]
done_of (Bad g) s h f = tt

pub system_done : (next : ℕ) (s : State) → s.stop ≡ Running → IsDone (system next s)
system_done next s h = done_of (system next s) s h (system_fine next s)

-- only a write writes
abbrev pub IsSilent : State → StepResult → Type 0
IsSilent s w = IsTrue (takes_memory s) ⊎ (((settled w s).out ≡ s.out) × ((settled w s).err ≡ s.err))

silent_of : (w : StepResult) (s : State) → IsFine s w → IsSilent s w
silent_of (On t) s f = f.1
silent_of (Bad g) s f = inr (refl, refl)

pub system_silent : (next : ℕ) (s : State) → IsSilent s (system next s)
system_silent next s = silent_of (system next s) s (system_fine next s)

first : (a b c : Bool) (n k : ℕ) → k < (if a && b then n else 0) → IsTrue (a || c)
first true b c n k h = refl
first false b c n k h = absurd (omega arith)

-- a call that asks for input is a read
pub asks_read : (s : State) (k : ℕ) → k < asks s → IsTrue (takes_memory s)
asks_read s k h = first (nat_eq (get_or s.cpu.regs 0 0) 3) (nat_eq (get_or s.cpu.regs 3 0) 0) _ (get_or s.cpu.regs 2 0) k h

-- so does any step
end_done : (x : Completion) (s : State) → s.stop ≡ Running → IsDone (result_of x s)
end_done (Next u rs to) s h = inl h
end_done (Denied at) s h = tt
end_done Divided s h = tt
end_done (Called n) s h = system_done _ s h

pub way_done : (f : Found) (s : State) (c : ℕ) → s.stop ≡ Running → IsDone (result_at f s c)
way_done NoCode s c h = tt
way_done NoInst s c h = tt
way_done (There i n) s c h = end_done (perform (act_of i n s) c s.cpu s.regions) s h

none_spare : (x : RunState) (k : ℕ) → (x ≡ Running) ⊎ ((n : ℕ) × (x ≡ Exited n)) → spare x k ≡ 0
none_spare x k (inl e) = ap (λ y. spare y k) e
none_spare x k (inr e) = ap (λ y. spare y k) e.1

asks_same : (b : Bool) (s : State) (x : RunState) → asks_by b s ≡ asks_by b (record s { stop = x })
asks_same true s x = refl
asks_same false s x = refl

-- what may be taken beyond the state is known by the state afterwards
pub few_ahead : (w : StepResult) (s : State) (more : ℕ) → IsDone w → more ≤ spare (settled w s).stop (asks_by (traps_at (found s.eip s.regions)) s) → more ≤ ahead (settled w s)
few_ahead (On t) s more done le = omega (arith, le, none_spare t.stop (asks_by (traps_at (found s.eip s.regions)) s) done)
few_ahead (Bad f) s more done le = omega (arith, le, asks_same (traps_at (found s.eip s.regions)) s (Faulted f))
