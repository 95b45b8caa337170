-- Where the act of a native instruction goes on.
use Rattle.std.proofs.Common.{◌≡◌, ℕ, ◌+◌, ◌-◌, ◌^◌, ◌==◌, ◌⊎◌, inl, inr, Bool, true, false, cond, List, get_or, Option, Some, None, refl}
use Rattle.br_word.specs.declared.types.Width.{Width}
use Rattle.br_word.specs.declared.types.Width.TheVariants.{B32}
use Rattle.ia_inst.specs.declared.inst.Rm.{Rm}
use Rattle.ia_inst.specs.declared.inst.Rm.TheVariants.{Reg, Mem}
use Rattle.ia_inst.specs.declared.inst.Src.{Src}
use Rattle.ia_inst.specs.declared.inst.Inst.{Inst}
use Rattle.ia_inst.specs.Kinds.{kind_of}
use Rattle.ia_inst.specs.Act.{NextEip, Past, Again, Act, Load, Store, Ask, Divides, Calls, Ends}
use Rattle.ia_inst.specs.Wide.{quotient, signed_quotient}
use Rattle.ia_inst.specs.Meaning.{wrap, of_rm, of_src, to_rm, muldiv, divides, pair_of, iterated, is_over, meaning}
use Rattle.ia_inst.specs.declared.inst.Src.TheVariants as src
use Rattle.ia_inst.specs.declared.inst.Inst.TheVariants as inst
use Rattle.ia_inst.specs.declared.inst.Kind.TheVariants as kinds

-- each end of an act, by DF and place; a system call is none
abbrev pub AllSo : (Bool → NextEip → Type 0) → Act → Type 0
AllSo P (Load at n k) = (v : ℕ) → AllSo P (k v)
AllSo P (Store at n v a) = AllSo P a
AllSo P (Ask f k) = (b : Bool) → AllSo P (k b)
AllSo P Divides = Unit {0}
AllSo P (Calls n) = ⊥
AllSo P (Ends regs df ch to) = P df to

module _ (P : Bool → NextEip → Type 0) where
  so_if : (b : Bool) (x y : Act) → AllSo P x → AllSo P y → AllSo P (cond b x y)
  so_if true x y p q = p
  so_if false x y p q = q

  pub so_rm : (w : Width) (a : Rm) (regs : List ℕ) (go : ℕ → Act) → ((v : ℕ) → AllSo P (go v)) → AllSo P (of_rm w a regs go)
  so_rm w (Reg r) regs go h = h _
  so_rm w (Mem a) regs go h = h

  so_src : (w : Width) (s : Src) (regs : List ℕ) (go : ℕ → Act) → ((v : ℕ) → AllSo P (go v)) → AllSo P (of_src w s regs go)
  so_src w (src.Rm a) regs go h = so_rm w a regs go h
  so_src w (src.Imm n) regs go h = h n

  so_to : (w : Width) (a : Rm) (v : ℕ) (regs : List ℕ) (go : List ℕ → Act) → ((regs : List ℕ) → AllSo P (go regs)) → AllSo P (to_rm w a v regs go)
  so_to w (Reg r) v regs go h = h _
  so_to w (Mem a) v regs go h = h regs

  so_divides : (q : Option (ℕ × ℕ)) (n : ℕ) (regs : List ℕ) (df : Bool) → P df (Past n) → AllSo P (divides q n regs df)
  so_divides None n regs df h = tt
  so_divides (Some p) n regs df h = h

  so_muldiv : (op b n : ℕ) (regs : List ℕ) (df : Bool) → P df (Past n) → AllSo P (muldiv op b n regs df)
  so_muldiv op b n regs df h =
      so_if (op == 4) _ _ h
      (so_if (op == 5) _ _ h
      (so_if (op == 6) _ _ (so_divides (quotient (pair_of regs) b) n regs df h) (so_divides (signed_quotient (pair_of regs) b) n regs df h)))

  so_iterated : (rep : Bool) (regs : List ℕ) (df : Bool) (n : ℕ) → P df (Past n) → P df Again → AllSo P (iterated rep regs df n)
  so_iterated true regs df n h k = pick (wrap (get_or regs 1 0 + 2 ^ 32 - 1) == 0)
    where
      pick : (b : Bool) → P df (cond b (Past n) Again)
      pick true = h
      pick false = k
  so_iterated false regs df n h k = h

-- ---- native instructions

-- it goes on behind itself or stands again, and keeps DF
abbrev pub IsHere : ℕ → Bool → Bool → NextEip → Type 0
IsHere n df d to = (d ≡ df) × ((to ≡ Past n) ⊎ (to ≡ Again))

abbrev pub IsNative : ℕ → Bool → Act → Type 0
IsNative n df a = AllSo (IsHere n df) a ⊎ (a ≡ Calls n)

pub island_here : (i : Inst) (n : ℕ) (regs : List ℕ) (eip : ℕ) (df : Bool) → kind_of i ≡ kinds.Island → IsNative n df (meaning i n regs eip df)
unfolding meaning
island_here (inst.MulDiv op a) n regs eip df e = inl (so_rm (IsHere n df) B32 a regs _ (λ b. so_muldiv (IsHere n df) op b n regs df (refl, inl refl)))
island_here (inst.Rotate right a k) n regs eip df e = inl (so_rm (IsHere n df) B32 a regs _ (λ x. so_to (IsHere n df) B32 a _ regs _ (λ regs. (refl, inl refl))))
island_here (inst.Movs w rep) n regs eip df e = inl (so_if (IsHere n df) (is_over rep regs) _ _ (refl, inl refl) (λ v. so_iterated (IsHere n df) rep _ df n (refl, inl refl) (refl, inr refl)))
island_here (inst.Stos w rep) n regs eip df e = inl (so_if (IsHere n df) (is_over rep regs) _ _ (refl, inl refl) (so_iterated (IsHere n df) rep _ df n (refl, inl refl) (refl, inr refl)))
island_here inst.Sahf n regs eip df e = inl (refl, inl refl)
island_here inst.Int80 n regs eip df e = inr refl
island_here i n regs eip df e = absurd (cc)
