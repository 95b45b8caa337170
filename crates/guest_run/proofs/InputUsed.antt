-- A step uses, of what it asks of the input, all that is there.
use Rattle.std.proofs.Common.{◌≡◌, ◌+◌, ◌-◌, ◌^◌, ◌&&◌, nat_eq, nat_le, if◌then◌else◌, ℕ, List, ◌++◌, length, take, drop, map, get_or, Bool, true, false, Option, Some, None, refl, sym, ◌∙◌, ap, subst, arith}
use Rattle.std.proofs.lemmas.List.{length-take, length-drop}
use Rattle.std.proofs.lemmas.Bool.{eqb-true}
use Rattle.br_word.specs.declared.types.GuestFault.TheVariants.{Access}
use Rattle.br_word.specs.Memory.{Region, resized}
use Rattle.br_word.specs.State.{State}
use Rattle.ia_inst.specs.declared.inst.Inst.{Inst}
use Rattle.ia_inst.specs.declared.inst.Inst.TheVariants as inst
use Rattle.ia_inst.specs.Act.{Completion, Next, Denied, Divided, Called, perform}
use Rattle.ia_inst.specs.Meaning.{wrap, meaning}
use Rattle.ia_inst.specs.Step.{Found, NoCode, NoInst, There, found, act_of, result_of, result_at, step_result, settled, unless_stopped, step}
use Rattle.ia_inst.specs.System.{StepResult, On, Bad, or_bad, answers, buffer, filled, call_exit, call_read, call_write, call_brk, system}
use Rattle.guest_sys.specs.Calls.{asks}
use Rattle.guest_run.specs.Guest.{is_trap, traps_at, asks_by, asks_next}
use Rattle.guest_run.proofs.NoCall.{no_call, never_called}
use Rattle.guest_run.proofs.CallResults.{few_ahead}
use Rattle.guest_run.specs.InputUse.{UsesInput, StepsUseInput}

-- a result of a step from s uses what the step asks for
abbrev ResultUses : State → StepResult → Type 0
ResultUses s w = UsesInput s (settled w s)

-- the result leaves the input as it is
abbrev NoneUsed : State → StepResult → Type 0
NoneUsed s w = (settled w s).input ≡ s.input

none_used : (s : State) (w : StepResult) → asks_next s ≡ 0 → NoneUsed s w → ResultUses s w
none_used s w none same = record {
  used = 0;
  rest = same;
  most = let a : length (drop (asks_next s) s.input) ≡ length s.input - asks_next s = length-drop (asks_next s) s.input in let b : length (settled w s).input ≡ length s.input = ap length same in omega (arith, a, b, none);
}

-- ---- a system call

exit_same : (next : ℕ) (s : State) → NoneUsed s (call_exit next s)
exit_same next s = refl

write_same : (s : State) (next at n : ℕ) (b c : Bool) (o : Option (List ℕ))
    → NoneUsed s (if b then or_bad at o (λ bs. On (record (answers n next s) { out = s.out ++ bs })) else if c then or_bad at o (λ bs. On (record (answers n next s) { err = s.err ++ bs })) else On (answers (2 ^ 32 - 9) next s))
write_same s next at n true c None = refl
write_same s next at n true c (Some bs) = refl
write_same s next at n false true None = refl
write_same s next at n false true (Some bs) = refl
write_same s next at n false false o = refl

brk_same : (s : State) (next to : ℕ) (rs : List Region) (b : Bool) → NoneUsed s (if b then On (record (answers to next s) { brk = to; regions = rs }) else On (answers s.brk next s))
brk_same s next to rs true = refl
brk_same s next to rs false = refl

-- n bytes are asked for by a read, which may fault
read_uses : (s : State) (next at n : ℕ) (b : Bool) (o : Option (List Region)) → asks_next s ≡ (if b then n else 0)
    → ResultUses s (if b then or_bad at o (λ rs. On (record (answers (length (take n s.input)) next s) { regions = rs; input = drop (length (take n s.input)) s.input })) else On (answers (2 ^ 32 - 9) next s))
read_uses s next at n true None is = record {
  used = 0;
  rest = refl;
  most = let a : length (drop (asks_next s) s.input) ≡ length s.input - asks_next s = length-drop (asks_next s) s.input in omega (arith, a, few_ahead (Bad (Access at)) s (asks_next s) tt (omega arith));
}
read_uses s next at n true (Some rs) is = record {
  used = length (take n s.input);
  rest = refl;
  most = omega (arith, is, length-drop (asks_next s) s.input, length-drop (length (take n s.input)) s.input, length-take n s.input);
}
read_uses s next at n false o is = none_used s (On (answers (2 ^ 32 - 9) next s)) is refl

-- only the call of number 3 asks for anything
choose_uses : (s : State) (p q r u : Bool) (a b c d f : StepResult) → (q ≡ false → asks_next s ≡ 0) → (p ≡ true → q ≡ false) → NoneUsed s a → (q ≡ true → ResultUses s b) → NoneUsed s c → NoneUsed s d → NoneUsed s f
    → ResultUses s (if p then a else if q then b else if r then c else if u then d else f)
choose_uses s true q r u a b c d f none other va vb vc vd vf = none_used s a (none (other refl)) va
choose_uses s false true r u a b c d f none other va vb vc vd vf = vb refl
choose_uses s false false true u a b c d f none other va vb vc vd vf = none_used s c (none refl) vc
choose_uses s false false false true a b c d f none other va vb vc vd vf = none_used s d (none refl) vd
choose_uses s false false false false a b c d f none other va vb vc vd vf = none_used s f (none refl) vf

one_or_three : (n : ℕ) → nat_eq n 1 ≡ true → nat_eq n 3 ≡ false
one_or_three n is = let P : ℕ → Type 0 = λ n. nat_eq n 3 ≡ false in subst P (sym (eqb-true n 1 is)) refl

system_uses : (next : ℕ) (s : State) → asks_next s ≡ asks s → ResultUses s (system next s)
unfolding system
system_uses next s is =
    let at = get_or s.cpu.regs 1 0 in
    let n = get_or s.cpu.regs 2 0 in
    let d = get_or s.cpu.regs 3 0 in
    let number = get_or s.cpu.regs 0 0 in
    choose_uses s (nat_eq number 1) (nat_eq number 3) (nat_eq number 4) (nat_eq number 45)
    (call_exit next s) (call_read next s) (call_write next s) (call_brk next s) (On (answers (2 ^ 32 - 38) next s))
    (λ other. is ∙ ap (λ b. if b && nat_eq d 0 then n else 0) other)
    (one_or_three number)
    (exit_same next s)
    (λ three. read_uses s next at n (nat_eq d 0) (filled at (take n s.input) s.regions) (is ∙ ap (λ b. if b && nat_eq d 0 then n else 0) three))
    (write_same s next at n (nat_eq d 1) (nat_eq d 2) (buffer at n s.regions))
    (brk_same s next d (map (resized s.brk_start (d - s.brk_start)) s.regions) (nat_le s.brk_start d && nat_le d (s.brk_start + 67108864)))
    refl

-- ---- a step

trap_is : (i : Inst) → is_trap i ≡ true → i ≡ inst.Int80
trap_is inst.Int80 e = refl
trap_is i e = absurd (cc)

-- an instruction that is no system call leaves the input as it is
end_same : (s : State) (e : Completion) → ((k : ℕ) → e ≡ Called k → ⊥) → NoneUsed s (result_of e s)
end_same s (Next u rs to) none = refl
end_same s (Denied at) none = refl
end_same s Divided none = refl
end_same s (Called k) none = absurd (none k refl)

call_uses : (n c : ℕ) (s : State) → asks_next s ≡ asks s → ResultUses s (result_at (There inst.Int80 n) s c)
unfolding meaning
call_uses n c s is = system_uses (wrap (s.eip + n)) s is

inst_uses : (i : Inst) (n c : ℕ) (s : State) → asks_next s ≡ asks_by (is_trap i) s → (b : Bool) → is_trap i ≡ b → ResultUses s (result_at (There i n) s c)
inst_uses i n c s is true trap = let P : Inst → Type 0 = λ i. ResultUses s (result_at (There i n) s c) in subst P (sym (trap_is i trap)) (call_uses n c s (is ∙ ap (λ b. asks_by b s) trap))
inst_uses i n c s is false trap =
    none_used s (result_at (There i n) s c) (is ∙ ap (λ b. asks_by b s) trap)
    (end_same s (perform (act_of i n s) c s.cpu s.regions) (λ k e. never_called (act_of i n s) c s.cpu s.regions k (no_call i n s.cpu.regs s.eip s.cpu.df trap) e))

result_uses : (f : Found) (c : ℕ) (s : State) → asks_next s ≡ asks_by (traps_at f) s → ResultUses s (result_at f s c)
result_uses NoCode c s is = none_used s (result_at NoCode s c) is refl
result_uses NoInst c s is = none_used s (result_at NoInst s c) is refl
result_uses (There i n) c s is = inst_uses i n c s is (is_trap i) refl

pub input_is_used : StepsUseInput
unfolding step
input_is_used s c running =
    let P : State → Type 0 = λ t. UsesInput s t in
    subst P (sym (ap (λ x. unless_stopped x s (settled (step_result s c) s)) running)) (result_uses (found s.eip s.regions) c s refl)
