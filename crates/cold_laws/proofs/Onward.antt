-- Where an instruction that is no transfer goes on, and what it does to DF.
use Rattle.std.proofs.Common.{◌≡◌, ℕ, ◌+◌, ◌-◌, ◌^◌, ◌==◌, Bool, true, false, List, get_or, set, Option, Some, None, ◌⊎◌, inl, inr, refl, ap, subst}
use Rattle.std.specs.Prelude.{if◌then◌else◌}
use Rattle.br_word.specs.declared.types.Width.{Width}
use Rattle.br_word.specs.declared.types.Width.TheVariants.{B8, B32}
use Rattle.br_word.specs.Memory.{Region, load, store}
use Rattle.br_word.specs.Words.{bit}
use Rattle.br_word.specs.State.{Processor, State, flag_of}
use Rattle.ia_inst.specs.declared.inst.Rm.{Rm}
use Rattle.ia_inst.specs.declared.inst.Rm.TheVariants.{Reg, Mem}
use Rattle.ia_inst.specs.declared.inst.Src.{Src}
use Rattle.ia_inst.specs.declared.inst.Src.TheVariants as src
use Rattle.ia_inst.specs.declared.inst.Inst.{Inst}
use Rattle.ia_inst.specs.declared.inst.Inst.TheVariants as inst
use Rattle.ia_inst.specs.declared.inst.Kind.TheVariants.{Island, Transfer}
use Rattle.ia_inst.specs.Kinds.{kind_of}
use Rattle.ia_inst.specs.Act.{NextEip, Past, Again, Act, Load, Store, Ask, Divides, Calls, Ends, Completion, Next, Denied, Divided, Called, or_denied, perform}
use Rattle.ia_inst.specs.Meaning.{wrap, of_rm, of_src, to_rm, with_carry, condition, divides, muldiv, pair_of, is_over, iterated, no_changes, meaning}
use Rattle.ia_inst.specs.Wide.{quotient, signed_quotient}
use Rattle.ia_inst.specs.Step.{There, next_eip, act_of, result_of, result_at}
use Rattle.ia_inst.specs.System.{On}
use Rattle.ia_inst.proofs.ConditionCases.{either, carry_all, condition_all}
use Rattle.sim_laws.specs.ByKind.{GoesBy, EachGoesByKind}
use Rattle.sim_runs.specs.Native.{AllEnds}

-- ---- acts that end so, with DF and a place, or call so

module _ (P : Bool → NextEip → Type 0) (C : ℕ → Type 0) where
  abbrev pub EndsSo : Act → Type 0
  EndsSo (Load at n k) = (v : ℕ) → EndsSo (k v)
  EndsSo (Store at n v a) = EndsSo a
  EndsSo (Ask f k) = (b : Bool) → EndsSo (k b)
  EndsSo Divides = Unit {0}
  EndsSo (Calls n) = C n
  EndsSo (Ends regs df ch to) = P df to

  abbrev pub IsSo : Completion → Type 0
  IsSo (Next u rs to) = P u.df to
  IsSo (Denied at) = Unit {0}
  IsSo Divided = Unit {0}
  IsSo (Called n) = C n

  or_so : {X : Type 0} (at : ℕ) (o : Option X) (go : X → Completion) → ((x : X) → IsSo (go x)) → IsSo (or_denied at o go)
  or_so at None go h = tt
  or_so at (Some x) go h = h x

  pub perform_so : (a : Act) (c : ℕ) (u : Processor) (rs : List Region) → EndsSo a → IsSo (perform a c u rs)
  perform_so (Load at n k) c u rs h = or_so at (load at n rs) _ (λ v. perform_so (k v) c u rs (h v))
  perform_so (Store at n v a) c u rs h = or_so at (store at n v rs) _ (λ ss. perform_so a c u ss h)
  perform_so (Ask f k) c u rs h = perform_so (k (flag_of f u.flags)) c u rs (h (flag_of f u.flags))
  perform_so Divides c u rs h = tt
  perform_so (Calls n) c u rs h = h
  perform_so (Ends regs df ch to) c u rs h = h

  of_rm_so : (w : Width) (a : Rm) (regs : List ℕ) (go : ℕ → Act) → ((v : ℕ) → EndsSo (go v)) → EndsSo (of_rm w a regs go)
  of_rm_so w (Reg r) regs go h = h _
  of_rm_so w (Mem a) regs go h = h

  of_src_so : (w : Width) (s : Src) (regs : List ℕ) (go : ℕ → Act) → ((v : ℕ) → EndsSo (go v)) → EndsSo (of_src w s regs go)
  of_src_so w (src.Rm a) regs go h = of_rm_so w a regs go h
  of_src_so w (src.Imm n) regs go h = h n

  to_rm_so : (w : Width) (a : Rm) (v : ℕ) (regs : List ℕ) (go : List ℕ → Act) → ((regs : List ℕ) → EndsSo (go regs)) → EndsSo (to_rm w a v regs go)
  to_rm_so w (Reg r) v regs go h = h _
  to_rm_so w (Mem a) v regs go h = h regs

  carry_so : (op : ℕ) (go : Bool → Act) → ((b : Bool) → EndsSo (go b)) → EndsSo (with_carry op go)
  carry_so op go h = carry_all EndsSo (λ f k h. h) op go h

  condition_so : (c : ℕ) (go : Bool → Act) → ((b : Bool) → EndsSo (go b)) → EndsSo (condition c go)
  condition_so c go h = condition_all EndsSo (λ f k h. h) c go h

  divides_so : (p : Option (ℕ × ℕ)) (n : ℕ) (regs : List ℕ) (df : Bool) → P df (Past n) → EndsSo (divides p n regs df)
  divides_so None n regs df h = tt
  divides_so (Some p) n regs df h = h

  muldiv_so : (op b n : ℕ) (regs : List ℕ) (df : Bool) → P df (Past n) → EndsSo (muldiv op b n regs df)
  muldiv_so op b n regs df h =
      either EndsSo (op == 4) _ _ h
      (either EndsSo (op == 5) _ _ h
      (either EndsSo (op == 6) _ _ (divides_so (quotient (pair_of regs) b) n regs df h) (divides_so (signed_quotient (pair_of regs) b) n regs df h)))

  iterated_so : (rep : Bool) (regs : List ℕ) (df : Bool) (n : ℕ) → P df (Past n) → P df Again → EndsSo (iterated rep regs df n)
  iterated_so false regs df n h k = h
  iterated_so true regs df n h k = next (wrap (get_or regs 1 0 + 2 ^ 32 - 1) == 0)
    where
      next : (b : Bool) → P df (if b then Past n else Again)
      next true = h
      next false = k

-- ---- every instruction that is no transfer

abbrev pub df_after : Inst → Bool → Bool
df_after inst.Cld df = false
df_after inst.Std df = true
df_after _ df = df

-- behind itself, or again where it is native
abbrev pub Here : Inst → ℕ → Bool → Bool → NextEip → Type 0
Here i n df d to = ((to ≡ Past n) ⊎ ((to ≡ Again) × (kind_of i ≡ Island))) × (d ≡ df_after i df)

abbrev pub OnlyInt : Inst → ℕ → ℕ → Type 0
OnlyInt i n m = (m ≡ n) × (i ≡ inst.Int80)

pub ends_here : (i : Inst) (n : ℕ) (regs : List ℕ) (eip : ℕ) (df : Bool) → (kind_of i ≡ Transfer → ⊥) → EndsSo (Here i n df) (OnlyInt i n) (meaning i n regs eip df)
unfolding meaning
ends_here (inst.Alu op w a s) n regs eip df h = carry_so (Here (inst.Alu op w a s) n df) (OnlyInt (inst.Alu op w a s) n) op _ (λ c. of_rm_so (Here (inst.Alu op w a s) n df) (OnlyInt (inst.Alu op w a s) n) w a regs _ (λ x. of_src_so (Here (inst.Alu op w a s) n df) (OnlyInt (inst.Alu op w a s) n) w s regs _ (λ y. either (EndsSo (Here (inst.Alu op w a s) n df) (OnlyInt (inst.Alu op w a s) n)) (op == 7) _ _ (inl refl, refl) (to_rm_so (Here (inst.Alu op w a s) n df) (OnlyInt (inst.Alu op w a s) n) w a _ regs _ (λ regs. (inl refl, refl))))))
ends_here (inst.Test w a s) n regs eip df h = of_rm_so (Here (inst.Test w a s) n df) (OnlyInt (inst.Test w a s) n) w a regs _ (λ x. of_src_so (Here (inst.Test w a s) n df) (OnlyInt (inst.Test w a s) n) w s regs _ (λ y. (inl refl, refl)))
ends_here (inst.Mov w a s) n regs eip df h = of_src_so (Here (inst.Mov w a s) n df) (OnlyInt (inst.Mov w a s) n) w s regs _ (λ y. to_rm_so (Here (inst.Mov w a s) n df) (OnlyInt (inst.Mov w a s) n) w a _ regs _ (λ regs. (inl refl, refl)))
ends_here (inst.Lea w g a) n regs eip df h = (inl refl, refl)
ends_here (inst.Xchg w a g) n regs eip df h = of_rm_so (Here (inst.Xchg w a g) n df) (OnlyInt (inst.Xchg w a g) n) w a regs _ (λ x. to_rm_so (Here (inst.Xchg w a g) n df) (OnlyInt (inst.Xchg w a g) n) w a _ regs _ (λ regs. (inl refl, refl)))
ends_here (inst.Inc w a) n regs eip df h = of_rm_so (Here (inst.Inc w a) n df) (OnlyInt (inst.Inc w a) n) w a regs _ (λ x. to_rm_so (Here (inst.Inc w a) n df) (OnlyInt (inst.Inc w a) n) w a _ regs _ (λ regs. (inl refl, refl)))
ends_here (inst.Dec w a) n regs eip df h = of_rm_so (Here (inst.Dec w a) n df) (OnlyInt (inst.Dec w a) n) w a regs _ (λ x. to_rm_so (Here (inst.Dec w a) n df) (OnlyInt (inst.Dec w a) n) w a _ regs _ (λ regs. (inl refl, refl)))
ends_here (inst.Not w a) n regs eip df h = of_rm_so (Here (inst.Not w a) n df) (OnlyInt (inst.Not w a) n) w a regs _ (λ x. to_rm_so (Here (inst.Not w a) n df) (OnlyInt (inst.Not w a) n) w a _ regs _ (λ regs. (inl refl, refl)))
ends_here (inst.Neg w a) n regs eip df h = of_rm_so (Here (inst.Neg w a) n df) (OnlyInt (inst.Neg w a) n) w a regs _ (λ x. to_rm_so (Here (inst.Neg w a) n df) (OnlyInt (inst.Neg w a) n) w a _ regs _ (λ regs. (inl refl, refl)))
ends_here (inst.Shift op w a k) n regs eip df h = of_rm_so (Here (inst.Shift op w a k) n df) (OnlyInt (inst.Shift op w a k) n) w a regs _ (λ x. to_rm_so (Here (inst.Shift op w a k) n df) (OnlyInt (inst.Shift op w a k) n) w a _ regs _ (λ regs. (inl refl, refl)))
ends_here (inst.Push s) n regs eip df h = of_src_so (Here (inst.Push s) n df) (OnlyInt (inst.Push s) n) B32 s regs _ (λ y. (inl refl, refl))
ends_here (inst.Pop a) n regs eip df h = λ v. to_rm_so (Here (inst.Pop a) n df) (OnlyInt (inst.Pop a) n) B32 a v _ _ (λ regs. (inl refl, refl))
ends_here (inst.MulDiv op a) n regs eip df h = of_rm_so (Here (inst.MulDiv op a) n df) (OnlyInt (inst.MulDiv op a) n) B32 a regs _ (λ b. muldiv_so (Here (inst.MulDiv op a) n df) (OnlyInt (inst.MulDiv op a) n) op b n regs df (inl refl, refl))
ends_here (inst.Imul g a by) n regs eip df h = of_rm_so (Here (inst.Imul g a by) n df) (OnlyInt (inst.Imul g a by) n) B32 a regs _ (λ b. (inl refl, refl))
ends_here (inst.Rotate right a k) n regs eip df h = of_rm_so (Here (inst.Rotate right a k) n df) (OnlyInt (inst.Rotate right a k) n) B32 a regs _ (λ x. to_rm_so (Here (inst.Rotate right a k) n df) (OnlyInt (inst.Rotate right a k) n) B32 a _ regs _ (λ regs. (inl refl, refl)))
ends_here inst.Cwde n regs eip df h = (inl refl, refl)
ends_here inst.Cdq n regs eip df h = (inl refl, refl)
ends_here (inst.Extend signs from to g a) n regs eip df h = of_rm_so (Here (inst.Extend signs from to g a) n df) (OnlyInt (inst.Extend signs from to g a) n) from a regs _ (λ x. (inl refl, refl))
ends_here (inst.Setcc c a) n regs eip df h = condition_so (Here (inst.Setcc c a) n df) (OnlyInt (inst.Setcc c a) n) c (λ b. to_rm B8 a (bit b) regs (λ regs. Ends regs df no_changes (Past n))) (λ b. to_rm_so (Here (inst.Setcc c a) n df) (OnlyInt (inst.Setcc c a) n) B8 a (bit b) regs _ (λ regs. (inl refl, refl)))
ends_here (inst.Cmov c g a) n regs eip df h = condition_so (Here (inst.Cmov c g a) n df) (OnlyInt (inst.Cmov c g a) n) c (λ b. of_rm B32 a regs (λ v. Ends (if b then set regs g v else regs) df no_changes (Past n))) (λ b. of_rm_so (Here (inst.Cmov c g a) n df) (OnlyInt (inst.Cmov c g a) n) B32 a regs _ (λ x. (inl refl, refl)))
ends_here (inst.Jcc c rel) n regs eip df h = absurd (h refl)
ends_here (inst.Jmp rel) n regs eip df h = absurd (h refl)
ends_here (inst.JmpRm a) n regs eip df h = absurd (h refl)
ends_here (inst.Call rel) n regs eip df h = absurd (h refl)
ends_here (inst.CallRm a) n regs eip df h = absurd (h refl)
ends_here (inst.Ret pop) n regs eip df h = absurd (h refl)
ends_here inst.Leave n regs eip df h = λ v. (inl refl, refl)
ends_here (inst.Movs w rep) n regs eip df h = either (EndsSo (Here (inst.Movs w rep) n df) (OnlyInt (inst.Movs w rep) n)) (is_over rep regs) _ _ (inl refl, refl) (λ v. iterated_so (Here (inst.Movs w rep) n df) (OnlyInt (inst.Movs w rep) n) rep _ df n (inl refl, refl) (inr (refl, refl), refl))
ends_here (inst.Stos w rep) n regs eip df h = either (EndsSo (Here (inst.Stos w rep) n df) (OnlyInt (inst.Stos w rep) n)) (is_over rep regs) _ _ (inl refl, refl) (iterated_so (Here (inst.Stos w rep) n df) (OnlyInt (inst.Stos w rep) n) rep _ df n (inl refl, refl) (inr (refl, refl), refl))
ends_here inst.Cld n regs eip df h = (inl refl, refl)
ends_here inst.Std n regs eip df h = (inl refl, refl)
ends_here inst.Sahf n regs eip df h = (inl refl, refl)
ends_here inst.Int80 n regs eip df h = (refl, refl)
ends_here inst.Nop n regs eip df h = (inl refl, refl)

-- in the words of places
pub ends_near : (i : Inst) (n : ℕ) (df : Bool) (Q : NextEip → Type 0) → ((to : NextEip) → ((to ≡ Past n) ⊎ ((to ≡ Again) × (kind_of i ≡ Island))) → Q to) → (a : Act) → EndsSo (Here i n df) (OnlyInt i n) a → AllEnds Q a
ends_near i n df Q f (Load at m k) h = λ v. ends_near i n df Q f (k v) (h v)
ends_near i n df Q f (Store at m v a) h = ends_near i n df Q f a h
ends_near i n df Q f (Ask g k) h = λ b. ends_near i n df Q f (k b) (h b)
ends_near i n df Q f Divides h = tt
ends_near i n df Q f (Calls m) h = f (Past m) (inl (ap Past h.0))
ends_near i n df Q f (Ends regs d ch to) h = f to h.0

same_on : (t u : State) → On t ≡ On u → t ≡ u
same_on t u e = cc

int_df : (i : Inst) (n : ℕ) (s t : State) → i ≡ inst.Int80 → GoesBy (kind_of i) i n s t → t.cpu.df ≡ df_after i s.cpu.df
int_df inst.Int80 n s t e g = g.1
int_df i n s t e g = absurd (cc)

df_by_end : (i : Inst) (n : ℕ) (s t : State) (e : Completion) → (i ≡ inst.Int80 → t.cpu.df ≡ df_after i s.cpu.df) → IsSo (Here i n s.cpu.df) (OnlyInt i n) e → result_of e s ≡ On t → t.cpu.df ≡ df_after i s.cpu.df
df_by_end i n s t (Next u rs to) c h w = let is : record s { eip = next_eip to s.eip; cpu = u; regions = rs } ≡ t = same_on _ t w in subst (λ (t : State). t.cpu.df ≡ df_after i s.cpu.df) is h.1
df_by_end i n s t (Denied at) c h w = cc
df_by_end i n s t Divided c h w = cc
df_by_end i n s t (Called m) c h w = c h.1

pub df_is : EachGoesByKind → (i : Inst) (n : ℕ) (s t : State) → (kind_of i ≡ Transfer → ⊥) → result_at (There i n) s 0 ≡ On t → t.cpu.df ≡ df_after i s.cpu.df
df_is by i n s t k w =
    df_by_end i n s t (perform (act_of i n s) 0 s.cpu s.regions) (λ e. int_df i n s t e (by i n s t 0 w))
    (perform_so (Here i n s.cpu.df) (OnlyInt i n) (act_of i n s) 0 s.cpu s.regions (ends_here i n s.cpu.regs s.eip s.cpu.df k)) w
