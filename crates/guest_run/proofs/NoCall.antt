-- Only int 0x80 comes to a system call.
use Rattle.std.proofs.Common.{◌≡◌, ℕ, ◌+◌, ◌/◌, ◌==◌, ◌||◌, Bool, true, false, cond, List, set, Option, Some, None, refl}
use Rattle.br_word.specs.declared.types.Width.{Width}
use Rattle.br_word.specs.declared.types.Width.TheVariants.{B8, B32}
use Rattle.br_word.specs.Memory.{Region, load, store}
use Rattle.br_word.specs.Words.{bit}
use Rattle.br_word.specs.State.{Processor, flag_of}
use Rattle.ia_inst.specs.declared.inst.Rm.{Rm}
use Rattle.ia_inst.specs.declared.inst.Rm.TheVariants.{Reg, Mem}
use Rattle.ia_inst.specs.declared.inst.Src.{Src}
use Rattle.ia_inst.specs.declared.inst.Src.TheVariants as src
use Rattle.ia_inst.specs.declared.inst.Inst.{Inst}
use Rattle.ia_inst.specs.declared.inst.Inst.TheVariants as inst
use Rattle.ia_inst.specs.Act.{Act, Load, Store, Ask, Divides, Calls, Ends, Past, To, Completion, Called, perform, or_denied}
use Rattle.ia_inst.specs.Wide.{quotient, signed_quotient}
use Rattle.ia_inst.specs.Meaning.{wrap, of_rm, of_src, to_rm, with_carry, even_condition, condition, muldiv, divides, pair_of, iterated, is_over, no_changes, meaning}
use Rattle.guest_run.specs.Guest.{is_trap}

-- no part of the act is a system call
abbrev pub NoCall : Act → Type 0
NoCall (Load at n k) = (v : ℕ) → NoCall (k v)
NoCall (Store at n v a) = NoCall a
NoCall (Ask f k) = (b : Bool) → NoCall (k b)
NoCall Divides = Unit {0}
NoCall (Calls n) = ⊥
NoCall (Ends regs df ch to) = Unit {0}

no_if : (b : Bool) (x y : Act) → NoCall x → NoCall y → NoCall (cond b x y)
no_if true x y p q = p
no_if false x y p q = q

no_rm : (w : Width) (a : Rm) (regs : List ℕ) (go : ℕ → Act) → ((v : ℕ) → NoCall (go v)) → NoCall (of_rm w a regs go)
no_rm w (Reg r) regs go h = h _
no_rm w (Mem a) regs go h = h

no_src : (w : Width) (s : Src) (regs : List ℕ) (go : ℕ → Act) → ((v : ℕ) → NoCall (go v)) → NoCall (of_src w s regs go)
no_src w (src.Rm a) regs go h = no_rm w a regs go h
no_src w (src.Imm n) regs go h = h n

no_to : (w : Width) (a : Rm) (v : ℕ) (regs : List ℕ) (go : List ℕ → Act) → ((regs : List ℕ) → NoCall (go regs)) → NoCall (to_rm w a v regs go)
no_to w (Reg r) v regs go h = h _
no_to w (Mem a) v regs go h = h regs

no_divides : (q : Option (ℕ × ℕ)) (n : ℕ) (regs : List ℕ) (df : Bool) → NoCall (divides q n regs df)
no_divides None n regs df = tt
no_divides (Some p) n regs df = tt

no_muldiv : (op b n : ℕ) (regs : List ℕ) (df : Bool) → NoCall (muldiv op b n regs df)
no_muldiv op b n regs df =
    no_if (op == 4) _ _ tt
    (no_if (op == 5) _ _ tt
    (no_if (op == 6) _ _ (no_divides (quotient (pair_of regs) b) n regs df) (no_divides (signed_quotient (pair_of regs) b) n regs df)))

no_iterated : (rep : Bool) (regs : List ℕ) (df : Bool) (n : ℕ) → NoCall (iterated rep regs df n)
no_iterated true regs df n = tt
no_iterated false regs df n = tt

no_even : (c : ℕ) (go : Bool → Act) → ((b : Bool) → NoCall (go b)) → NoCall (even_condition c go)
no_even c go h =
    no_if (c == 0) _ _ (λ a. h a) (no_if (c == 1) _ _ (λ a. h a) (no_if (c == 2) _ _ (λ a. h a) (no_if (c == 3) _ _ (λ a b. h _)
    (no_if (c == 4) _ _ (λ a. h a) (no_if (c == 5) _ _ (λ a. h a) (no_if (c == 6) _ _ (λ a b. h _) (λ z a b. h _)))))))

no_condition : (c : ℕ) (go : Bool → Act) → ((b : Bool) → NoCall (go b)) → NoCall (condition c go)
no_condition c go h = no_even (c / 2) _ (λ b. h _)

no_carry : (op : ℕ) (go : Bool → Act) → ((b : Bool) → NoCall (go b)) → NoCall (with_carry op go)
no_carry op go h = no_if (op == 2 || op == 3) _ _ (λ b. h b) (h false)

pub no_call : (i : Inst) (n : ℕ) (regs : List ℕ) (eip : ℕ) (df : Bool) → is_trap i ≡ false → NoCall (meaning i n regs eip df)
unfolding meaning
no_call (inst.Alu op w a s) n regs eip df e = no_carry op _ (λ c. no_rm w a regs _ (λ x. no_src w s regs _ (λ y. no_if (op == 7) _ _ tt (no_to w a _ regs _ (λ regs. tt)))))
no_call (inst.Test w a s) n regs eip df e = no_rm w a regs _ (λ x. no_src w s regs _ (λ y. tt))
no_call (inst.Mov w a s) n regs eip df e = no_src w s regs _ (λ y. no_to w a _ regs _ (λ regs. tt))
no_call (inst.Lea w g a) n regs eip df e = tt
no_call (inst.Xchg w a g) n regs eip df e = no_rm w a regs _ (λ x. no_to w a _ regs _ (λ regs. tt))
no_call (inst.Inc w a) n regs eip df e = no_rm w a regs _ (λ x. no_to w a _ regs _ (λ regs. tt))
no_call (inst.Dec w a) n regs eip df e = no_rm w a regs _ (λ x. no_to w a _ regs _ (λ regs. tt))
no_call (inst.Not w a) n regs eip df e = no_rm w a regs _ (λ x. no_to w a _ regs _ (λ regs. tt))
no_call (inst.Neg w a) n regs eip df e = no_rm w a regs _ (λ x. no_to w a _ regs _ (λ regs. tt))
no_call (inst.Push s) n regs eip df e = no_src B32 s regs _ (λ y. tt)
no_call (inst.Pop a) n regs eip df e = λ v. no_to B32 a v _ _ (λ regs. tt)
no_call (inst.MulDiv op a) n regs eip df e = no_rm B32 a regs _ (λ b. no_muldiv op b n regs df)
no_call (inst.Imul g a by) n regs eip df e = no_rm B32 a regs _ (λ b. tt)
no_call (inst.Shift op w a k) n regs eip df e = no_rm w a regs _ (λ x. no_to w a _ regs _ (λ regs. tt))
no_call (inst.Rotate right a k) n regs eip df e = no_rm B32 a regs _ (λ x. no_to B32 a _ regs _ (λ regs. tt))
no_call inst.Cwde n regs eip df e = tt
no_call inst.Cdq n regs eip df e = tt
no_call (inst.Extend signed from to g a) n regs eip df e = no_rm from a regs _ (λ x. tt)
no_call (inst.Setcc c a) n regs eip df e = no_condition c (λ b. to_rm B8 a (bit b) regs (λ regs. Ends regs df no_changes (Past n))) (λ b. no_to B8 a (bit b) regs _ (λ regs. tt))
no_call (inst.Cmov c g a) n regs eip df e = no_condition c (λ b. of_rm B32 a regs (λ v. Ends (cond b (set regs g v) regs) df no_changes (Past n))) (λ b. no_rm B32 a regs _ (λ x. tt))
no_call (inst.Jcc c rel) n regs eip df e = no_condition c (λ b. Ends regs df no_changes (cond b (To (wrap (eip + n + rel))) (Past n))) (λ b. tt)
no_call (inst.Jmp rel) n regs eip df e = tt
no_call (inst.JmpRm a) n regs eip df e = no_rm B32 a regs _ (λ t. tt)
no_call (inst.Call rel) n regs eip df e = tt
no_call (inst.CallRm a) n regs eip df e = no_rm B32 a regs _ (λ t. tt)
no_call (inst.Ret pop) n regs eip df e = λ v. tt
no_call inst.Leave n regs eip df e = λ v. tt
no_call (inst.Movs w rep) n regs eip df e = no_if (is_over rep regs) _ _ tt (λ v. no_iterated rep _ df n)
no_call (inst.Stos w rep) n regs eip df e = no_if (is_over rep regs) _ _ tt (no_iterated rep _ df n)
no_call inst.Cld n regs eip df e = tt
no_call inst.Std n regs eip df e = tt
no_call inst.Sahf n regs eip df e = tt
no_call inst.Nop n regs eip df e = tt
no_call inst.Int80 n regs eip df e = absurd (cc)

not_called : {X : Type 0} (at : ℕ) (o : Option X) (go : X → Completion) (k : ℕ) → ((x : X) → go x ≡ Called k → ⊥) → or_denied at o go ≡ Called k → ⊥
not_called at None go k h e = cc
not_called at (Some x) go k h e = h x e

-- an act without a call does not come to one
pub never_called : (a : Act) (c : ℕ) (u : Processor) (rs : List Region) (k : ℕ) → NoCall a → perform a c u rs ≡ Called k → ⊥
never_called (Load at n f) c u rs k h e = not_called at (load at n rs) (λ v. perform (f v) c u rs) k (λ v q. never_called (f v) c u rs k (h v) q) e
never_called (Store at n v a) c u rs k h e = not_called at (store at n v rs) (λ ss. perform a c u ss) k (λ ss q. never_called a c u ss k h q) e
never_called (Ask f g) c u rs k h e = never_called (g (flag_of f u.flags)) c u rs k (h (flag_of f u.flags)) e
never_called Divides c u rs k h e = cc
never_called (Calls n) c u rs k h e = h
never_called (Ends regs df ch to) c u rs k h e = cc

pub called_traps : (i : Inst) (n : ℕ) (regs : List ℕ) (eip : ℕ) (df : Bool) (c : ℕ) (u : Processor) (rs : List Region) (k : ℕ) → perform (meaning i n regs eip df) c u rs ≡ Called k → is_trap i ≡ true
called_traps i n regs eip df c u rs k e = go (is_trap i) refl where
  go : (b : Bool) → is_trap i ≡ b → b ≡ true
  go true h = refl
  go false h = absurd (never_called (meaning i n regs eip df) c u rs k (no_call i n regs eip df h) e)
