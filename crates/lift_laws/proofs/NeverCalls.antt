-- An instruction that is not native makes no system call.
use Rattle.std.proofs.Common.{◌≡◌, ℕ, ◌+◌, Bool, List, Option, Some, None, subst}
use Rattle.std.specs.Prelude.{set, ◌==◌, if◌then◌else◌}
use Rattle.br_word.specs.declared.types.Width.{Width}
use Rattle.br_word.specs.declared.types.Width.TheVariants.{B8, B32}
use Rattle.br_word.specs.Memory.{Region, load, store}
use Rattle.br_word.specs.Words.{bit}
use Rattle.br_word.specs.State.{Processor, flag_of}
use Rattle.ia_inst.specs.declared.inst.Rm.{Rm}
use Rattle.ia_inst.specs.declared.inst.Rm.TheVariants.{Reg, Mem}
use Rattle.ia_inst.specs.declared.inst.Src.{Src}
use Rattle.ia_inst.specs.declared.inst.Src.TheVariants as src
use Rattle.ia_inst.specs.declared.inst.Inst.{Inst}
use Rattle.ia_inst.specs.declared.inst.Inst.TheVariants.{Alu, Test, Mov, Lea, Xchg, Inc, Dec, Not, Neg, Push, Pop, MulDiv, Imul, Shift, Rotate, Cwde, Cdq, Extend, Setcc, Cmov, Jcc, Jmp, JmpRm, Call, CallRm, Ret, Leave, Movs, Stos, Cld, Std, Sahf, Int80, Nop}
use Rattle.ia_inst.specs.Kinds.{kind_of}
use Rattle.ia_inst.specs.Act.{Past, To, Act, Load, Store, Ask, Divides, Calls, Ends, Completion, Next, Denied, Divided, Called, or_denied, perform}
use Rattle.ia_inst.specs.Meaning.{wrap, of_rm, of_src, to_rm, with_carry, condition, pushed, no_changes, alu, meaning}
use Rattle.ia_inst.proofs.ConditionCases.{either, carry_all, condition_all}
use Rattle.lift_alu.specs.Means.{IsLifted}

-- no end of it is a call
abbrev NoCall : Act → Type 0
NoCall (Load at n k) = (v : ℕ) → NoCall (k v)
NoCall (Store at n v a) = NoCall a
NoCall (Ask f k) = (b : Bool) → NoCall (k b)
NoCall Divides = Unit {0}
NoCall (Calls n) = ⊥
NoCall (Ends regs df ch to) = Unit {0}

abbrev IsNoCall : Completion → Type 0
IsNoCall (Next u rs to) = Unit {0}
IsNoCall (Denied at) = Unit {0}
IsNoCall Divided = Unit {0}
IsNoCall (Called n) = ⊥

or_none : {X : Type 0} (at : ℕ) (o : Option X) (go : X → Completion) → ((x : X) → IsNoCall (go x)) → IsNoCall (or_denied at o go)
or_none at None go h = tt
or_none at (Some x) go h = h x

performed : (a : Act) (c : ℕ) (u : Processor) (rs : List Region) → NoCall a → IsNoCall (perform a c u rs)
performed (Load at n k) c u rs h = or_none at (load at n rs) _ (λ v. performed (k v) c u rs (h v))
performed (Store at n v a) c u rs h = or_none at (store at n v rs) _ (λ ss. performed a c u ss h)
performed (Ask f k) c u rs h = performed (k (flag_of f u.flags)) c u rs (h (flag_of f u.flags))
performed Divides c u rs h = tt
performed (Calls n) c u rs h = absurd h
performed (Ends regs df ch to) c u rs h = tt

rm_none : (w : Width) (a : Rm) (regs : List ℕ) (go : ℕ → Act) → ((v : ℕ) → NoCall (go v)) → NoCall (of_rm w a regs go)
rm_none w (Reg r) regs go h = h _
rm_none w (Mem a) regs go h = h

src_none : (w : Width) (s : Src) (regs : List ℕ) (go : ℕ → Act) → ((v : ℕ) → NoCall (go v)) → NoCall (of_src w s regs go)
src_none w (src.Rm a) regs go h = rm_none w a regs go h
src_none w (src.Imm n) regs go h = h n

to_none : (w : Width) (a : Rm) (v : ℕ) (regs : List ℕ) (go : List ℕ → Act) → ((regs : List ℕ) → NoCall (go regs)) → NoCall (to_rm w a v regs go)
to_none w (Reg r) v regs go h = h _
to_none w (Mem a) v regs go h = h regs

carry_none : (op : ℕ) (go : Bool → Act) → ((b : Bool) → NoCall (go b)) → NoCall (with_carry op go)
carry_none op go h = carry_all NoCall (λ f k h. h) op go h

condition_none : (c : ℕ) (go : Bool → Act) → ((b : Bool) → NoCall (go b)) → NoCall (condition c go)
condition_none c go h = condition_all NoCall (λ f k h. h) c go h

calls_none : (i : Inst) (n : ℕ) (regs : List ℕ) (eip : ℕ) (df : Bool) → IsLifted (kind_of i) → NoCall (meaning i n regs eip df)
unfolding meaning
calls_none (Alu op w a s) n regs eip df k = carry_none op _ (λ c. rm_none w a regs _ (λ x. src_none w s regs _ (λ y. let r = alu op w x y c in either NoCall (op == 7) (Ends regs df r.changes (Past n)) (to_rm w a r.value regs (λ regs. Ends regs df r.changes (Past n))) tt (to_none w a r.value regs (λ regs. Ends regs df r.changes (Past n)) (λ regs. tt)))))
calls_none (Test w a s) n regs eip df k = rm_none w a regs _ (λ x. src_none w s regs _ (λ y. tt))
calls_none (Mov w a s) n regs eip df k = src_none w s regs _ (λ y. to_none w a _ regs _ (λ regs. tt))
calls_none (Lea w g a) n regs eip df k = tt
calls_none (Xchg w a g) n regs eip df k = rm_none w a regs _ (λ x. to_none w a _ regs _ (λ regs. tt))
calls_none (Inc w a) n regs eip df k = rm_none w a regs _ (λ x. to_none w a _ regs _ (λ regs. tt))
calls_none (Dec w a) n regs eip df k = rm_none w a regs _ (λ x. to_none w a _ regs _ (λ regs. tt))
calls_none (Not w a) n regs eip df k = rm_none w a regs _ (λ x. to_none w a _ regs _ (λ regs. tt))
calls_none (Neg w a) n regs eip df k = rm_none w a regs _ (λ x. to_none w a _ regs _ (λ regs. tt))
calls_none (Push s) n regs eip df k = src_none B32 s regs _ (λ y. tt)
calls_none (Pop a) n regs eip df k = λ v. to_none B32 a v _ _ (λ regs. tt)
calls_none (MulDiv op a) n regs eip df k = absurd k
calls_none (Imul g a by) n regs eip df k = rm_none B32 a regs _ (λ b. tt)
calls_none (Shift op w a c) n regs eip df k = rm_none w a regs _ (λ x. to_none w a _ regs _ (λ regs. tt))
calls_none (Rotate right a c) n regs eip df k = absurd k
calls_none Cwde n regs eip df k = tt
calls_none Cdq n regs eip df k = tt
calls_none (Extend signs from to g a) n regs eip df k = rm_none from a regs _ (λ x. tt)
calls_none (Setcc c a) n regs eip df k = condition_none c (λ b. to_rm B8 a (bit b) regs (λ regs. Ends regs df no_changes (Past n))) (λ b. to_none B8 a (bit b) regs _ (λ regs. tt))
calls_none (Cmov c g a) n regs eip df k = condition_none c (λ b. of_rm B32 a regs (λ v. Ends (if b then set regs g v else regs) df no_changes (Past n))) (λ b. rm_none B32 a regs _ (λ x. tt))
calls_none (Jcc c rel) n regs eip df k = condition_none c (λ b. Ends regs df no_changes (if b then To (wrap (eip + n + rel)) else Past n)) (λ b. tt)
calls_none (Jmp rel) n regs eip df k = tt
calls_none (JmpRm a) n regs eip df k = rm_none B32 a regs _ (λ t. tt)
calls_none (Call rel) n regs eip df k = tt
calls_none (CallRm a) n regs eip df k = rm_none B32 a regs (λ t. pushed (wrap (eip + n)) regs (λ regs. Ends regs df no_changes (To t))) (λ t. tt)
calls_none (Ret pop) n regs eip df k = λ t. tt
calls_none Leave n regs eip df k = λ v. tt
calls_none (Movs w rep) n regs eip df k = absurd k
calls_none (Stos w rep) n regs eip df k = absurd k
calls_none Cld n regs eip df k = tt
calls_none Std n regs eip df k = tt
calls_none Sahf n regs eip df k = absurd k
calls_none Int80 n regs eip df k = absurd k
calls_none Nop n regs eip df k = tt

pub no_call : (i : Inst) (n m : ℕ) (regs : List ℕ) (eip : ℕ) (df : Bool) (c : ℕ) (u : Processor) (rs : List Region) → IsLifted (kind_of i) → perform (meaning i n regs eip df) c u rs ≡ Called m → ⊥
no_call i n m regs eip df c u rs k q = subst IsNoCall q (performed (meaning i n regs eip df) c u rs (calls_none i n regs eip df k))
