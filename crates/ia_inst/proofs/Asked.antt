-- A step asks for the flags that its instruction reads, before it accesses memory.
use Rattle.std.proofs.Common.{◌≡◌, ℕ, ◌+◌, ◌-◌, ◌^◌, ◌/◌, ◌==◌, ◌||◌, Bool, true, false, cond, List, [], ◌∷◌, get_or, set, Option, Some, None, refl, ap}
use Rattle.br_word.specs.declared.types.Flags.{Flags}
use Rattle.br_word.specs.declared.types.Width.{Width}
use Rattle.br_word.specs.declared.types.Width.TheVariants.{B8, B32}
use Rattle.br_word.specs.Memory.{Region, load, store}
use Rattle.br_word.specs.Words.{size_of, bit}
use Rattle.br_word.specs.Flags.{differ}
use Rattle.br_word.specs.State.{Flag, CF, PF, ZF, SF, OF}
use Rattle.ia_inst.specs.declared.inst.Rm.{Rm}
use Rattle.ia_inst.specs.declared.inst.Rm.TheVariants.{Reg, Mem}
use Rattle.ia_inst.specs.declared.inst.Src.{Src}
use Rattle.ia_inst.specs.declared.inst.Src.TheVariants as src
use Rattle.ia_inst.specs.declared.inst.Inst.{Inst}
use Rattle.ia_inst.specs.declared.inst.Inst.TheVariants as inst
use Rattle.ia_inst.specs.Act.{Act, Ask, Ends, Past, To, asked, or_none}
use Rattle.ia_inst.specs.Wide.{quotient, signed_quotient}
use Rattle.ia_inst.specs.Meaning.{wrap, address_of, of_rm, of_src, to_rm, pushed, with_carry, even_condition, condition, muldiv, divides, pair_of, iterated, is_over, no_changes, meaning}
use Rattle.ia_inst.specs.Kinds.{pair_flags, condition_flags, flags_read}

none_or : {X : Type 0} (r : Option X) (go : X → List Flag) → ((x : X) → go x ≡ []) → or_none r go ≡ []
none_or None go h = refl
none_or (Some x) go h = h x

silent_if : (b : Bool) (x y : Act) (fl : Flags) (rs : List Region) → asked x fl rs ≡ [] → asked y fl rs ≡ [] → asked (cond b x y) fl rs ≡ []
silent_if true x y fl rs p q = p
silent_if false x y fl rs p q = q

-- ---- accesses ask for nothing themselves

of_rm_silent : (w : Width) (a : Rm) (regs : List ℕ) (go : ℕ → Act) (fl : Flags) (rs : List Region) → ((v : ℕ) → asked (go v) fl rs ≡ []) → asked (of_rm w a regs go) fl rs ≡ []
of_rm_silent w (Reg r) regs go fl rs h = h _
of_rm_silent w (Mem a) regs go fl rs h = none_or (load (address_of a regs) (size_of w) rs) (λ v. asked (go v) fl rs) h

of_src_silent : (w : Width) (s : Src) (regs : List ℕ) (go : ℕ → Act) (fl : Flags) (rs : List Region) → ((v : ℕ) → asked (go v) fl rs ≡ []) → asked (of_src w s regs go) fl rs ≡ []
of_src_silent w (src.Rm a) regs go fl rs h = of_rm_silent w a regs go fl rs h
of_src_silent w (src.Imm n) regs go fl rs h = h n

to_rm_silent : (w : Width) (a : Rm) (v : ℕ) (regs : List ℕ) (go : List ℕ → Act) (fl : Flags) (rs : List Region) → ((regs : List ℕ) (rs : List Region) → asked (go regs) fl rs ≡ []) → asked (to_rm w a v regs go) fl rs ≡ []
to_rm_silent w (Reg r) v regs go fl rs h = h _ rs
to_rm_silent w (Mem a) v regs go fl rs h = none_or (store (address_of a regs) (size_of w) v rs) (λ rs. asked (go regs) fl rs) (h regs)

pushed_silent : (v : ℕ) (regs : List ℕ) (go : List ℕ → Act) (fl : Flags) (rs : List Region) → ((regs : List ℕ) (rs : List Region) → asked (go regs) fl rs ≡ []) → asked (pushed v regs go) fl rs ≡ []
pushed_silent v regs go fl rs h = none_or (store (wrap (get_or regs 4 0 + 2 ^ 32 - 4)) 4 v rs) (λ rs. asked (go (set regs 4 (wrap (get_or regs 4 0 + 2 ^ 32 - 4)))) fl rs) (h _)

divides_silent : (q : Option (ℕ × ℕ)) (n : ℕ) (regs : List ℕ) (df : Bool) (fl : Flags) (rs : List Region) → asked (divides q n regs df) fl rs ≡ []
divides_silent None n regs df fl rs = refl
divides_silent (Some p) n regs df fl rs = refl

muldiv_silent : (op b n : ℕ) (regs : List ℕ) (df : Bool) (fl : Flags) (rs : List Region) → asked (muldiv op b n regs df) fl rs ≡ []
muldiv_silent op b n regs df fl rs =
    silent_if (op == 4) _ _ fl rs refl
    (silent_if (op == 5) _ _ fl rs refl
    (silent_if (op == 6) _ _ fl rs (divides_silent (quotient (pair_of regs) b) n regs df fl rs) (divides_silent (signed_quotient (pair_of regs) b) n regs df fl rs)))

iterated_silent : (rep : Bool) (regs : List ℕ) (df : Bool) (n : ℕ) (fl : Flags) (rs : List Region) → asked (iterated rep regs df n) fl rs ≡ []
iterated_silent true regs df n fl rs = refl
iterated_silent false regs df n fl rs = refl

-- ---- conditions

pair_asked : (c : ℕ) (go : Bool → Act) (fl : Flags) (rs : List Region) → ((b : Bool) → asked (go b) fl rs ≡ []) → asked (even_condition c go) fl rs ≡ pair_flags c
pair_asked c go fl rs h = by_test (c == 0) (c == 1) (c == 2) (c == 3) (c == 4) (c == 5) (c == 6)
  where
    one : (f : Flag) (x : Bool) → f ∷ asked (go x) fl rs ≡ f ∷ []
    one f x = ap (λ (w : List Flag). f ∷ w) (h x)

    by_test : (p q r s t u v : Bool) → asked (cond p (Ask OF go) (cond q (Ask CF go) (cond r (Ask ZF go) (cond s (Ask CF (λ a. Ask ZF (λ b. go (a || b)))) (cond t (Ask SF go) (cond u (Ask PF go) (cond v (Ask SF (λ a. Ask OF (λ b. go (differ a b)))) (Ask ZF (λ z. Ask SF (λ a. Ask OF (λ b. go (z || differ a b)))))))))))) fl rs ≡ cond p (OF ∷ []) (cond q (CF ∷ []) (cond r (ZF ∷ []) (cond s (CF ∷ ZF ∷ []) (cond t (SF ∷ []) (cond u (PF ∷ []) (cond v (SF ∷ OF ∷ []) (ZF ∷ SF ∷ OF ∷ [])))))))
    by_test true q r s t u v = one OF _
    by_test false true r s t u v = one CF _
    by_test false false true s t u v = one ZF _
    by_test false false false true t u v = ap (λ (w : List Flag). CF ∷ w) (one ZF _)
    by_test false false false false true u v = one SF _
    by_test false false false false false true v = one PF _
    by_test false false false false false false true = ap (λ (w : List Flag). SF ∷ w) (one OF _)
    by_test false false false false false false false = ap (λ (w : List Flag). ZF ∷ SF ∷ w) (one OF _)

condition_asked : (c : ℕ) (go : Bool → Act) (fl : Flags) (rs : List Region) → ((b : Bool) → asked (go b) fl rs ≡ []) → asked (condition c go) fl rs ≡ condition_flags c
condition_asked c go fl rs h = pair_asked (c / 2) _ fl rs (λ b. h _)

carry_asked : (op : ℕ) (go : Bool → Act) (fl : Flags) (rs : List Region) → ((b : Bool) → asked (go b) fl rs ≡ []) → asked (with_carry op go) fl rs ≡ cond (op == 2 || op == 3) (CF ∷ []) []
carry_asked op go fl rs h = by_test (op == 2 || op == 3)
  where
    by_test : (b : Bool) → asked (cond b (Ask CF go) (go false)) fl rs ≡ cond b (CF ∷ []) []
    by_test true = ap (λ (w : List Flag). CF ∷ w) (h _)
    by_test false = h false

-- ---- every instruction

pub asked_is_read : (i : Inst) (n : ℕ) (regs : List ℕ) (eip : ℕ) (df : Bool) (fl : Flags) (rs : List Region) → asked (meaning i n regs eip df) fl rs ≡ flags_read i
unfolding meaning
asked_is_read (inst.Alu op w a s) n regs eip df fl rs =
    carry_asked op _ fl rs (λ c. of_rm_silent w a regs _ fl rs (λ x. of_src_silent w s regs _ fl rs (λ y.
    silent_if (op == 7) _ _ fl rs refl (to_rm_silent w a _ regs _ fl rs (λ regs rs. refl)))))
asked_is_read (inst.Test w a s) n regs eip df fl rs = of_rm_silent w a regs _ fl rs (λ x. of_src_silent w s regs _ fl rs (λ y. refl))
asked_is_read (inst.Mov w a s) n regs eip df fl rs = of_src_silent w s regs _ fl rs (λ y. to_rm_silent w a _ regs _ fl rs (λ regs rs. refl))
asked_is_read (inst.Lea w g a) n regs eip df fl rs = refl
asked_is_read (inst.Xchg w a g) n regs eip df fl rs = of_rm_silent w a regs _ fl rs (λ x. to_rm_silent w a _ regs _ fl rs (λ regs rs. refl))
asked_is_read (inst.Inc w a) n regs eip df fl rs = of_rm_silent w a regs _ fl rs (λ x. to_rm_silent w a _ regs _ fl rs (λ regs rs. refl))
asked_is_read (inst.Dec w a) n regs eip df fl rs = of_rm_silent w a regs _ fl rs (λ x. to_rm_silent w a _ regs _ fl rs (λ regs rs. refl))
asked_is_read (inst.Not w a) n regs eip df fl rs = of_rm_silent w a regs _ fl rs (λ x. to_rm_silent w a _ regs _ fl rs (λ regs rs. refl))
asked_is_read (inst.Neg w a) n regs eip df fl rs = of_rm_silent w a regs _ fl rs (λ x. to_rm_silent w a _ regs _ fl rs (λ regs rs. refl))
asked_is_read (inst.Push s) n regs eip df fl rs = of_src_silent B32 s regs _ fl rs (λ y. pushed_silent y regs (λ regs. Ends regs df no_changes (Past n)) fl rs (λ regs rs. refl))
asked_is_read (inst.Pop a) n regs eip df fl rs = none_or (load (get_or regs 4 0) 4 rs) _ (λ v. to_rm_silent B32 a v _ _ fl rs (λ regs rs. refl))
asked_is_read (inst.MulDiv op a) n regs eip df fl rs = of_rm_silent B32 a regs _ fl rs (λ b. muldiv_silent op b n regs df fl rs)
asked_is_read (inst.Imul g a by) n regs eip df fl rs = of_rm_silent B32 a regs _ fl rs (λ b. refl)
asked_is_read (inst.Shift op w a k) n regs eip df fl rs = of_rm_silent w a regs _ fl rs (λ x. to_rm_silent w a _ regs _ fl rs (λ regs rs. refl))
asked_is_read (inst.Rotate right a k) n regs eip df fl rs = of_rm_silent B32 a regs _ fl rs (λ x. to_rm_silent B32 a _ regs _ fl rs (λ regs rs. refl))
asked_is_read inst.Cwde n regs eip df fl rs = refl
asked_is_read inst.Cdq n regs eip df fl rs = refl
asked_is_read (inst.Extend signed from to g a) n regs eip df fl rs = of_rm_silent from a regs _ fl rs (λ x. refl)
asked_is_read (inst.Setcc c a) n regs eip df fl rs = condition_asked c (λ b. to_rm B8 a (bit b) regs (λ regs. Ends regs df no_changes (Past n))) fl rs (λ b. to_rm_silent B8 a (bit b) regs _ fl rs (λ regs rs. refl))
asked_is_read (inst.Cmov c g a) n regs eip df fl rs = condition_asked c (λ b. of_rm B32 a regs (λ v. Ends (cond b (set regs g v) regs) df no_changes (Past n))) fl rs (λ b. of_rm_silent B32 a regs _ fl rs (λ x. refl))
asked_is_read (inst.Jcc c rel) n regs eip df fl rs = condition_asked c (λ b. Ends regs df no_changes (cond b (To (wrap (eip + n + rel))) (Past n))) fl rs (λ b. refl)
asked_is_read (inst.Jmp rel) n regs eip df fl rs = refl
asked_is_read (inst.JmpRm a) n regs eip df fl rs = of_rm_silent B32 a regs _ fl rs (λ t. refl)
asked_is_read (inst.Call rel) n regs eip df fl rs = pushed_silent (wrap (eip + n)) regs (λ regs. Ends regs df no_changes (To (wrap (eip + n + rel)))) fl rs (λ regs rs. refl)
asked_is_read (inst.CallRm a) n regs eip df fl rs = of_rm_silent B32 a regs _ fl rs (λ t. pushed_silent (wrap (eip + n)) regs (λ regs. Ends regs df no_changes (To t)) fl rs (λ regs rs. refl))
asked_is_read (inst.Ret pop) n regs eip df fl rs = none_or (load (get_or regs 4 0) 4 rs) _ (λ v. refl)
asked_is_read inst.Leave n regs eip df fl rs = none_or (load (get_or regs 5 0) 4 rs) _ (λ v. refl)
asked_is_read (inst.Movs w rep) n regs eip df fl rs =
    silent_if (is_over rep regs) _ _ fl rs refl
    (none_or (load (get_or regs 6 0) (size_of w) rs) _ (λ v. none_or (store (get_or regs 7 0) (size_of w) v rs) _ (λ rs. iterated_silent rep _ df n fl rs)))
asked_is_read (inst.Stos w rep) n regs eip df fl rs =
    silent_if (is_over rep regs) _ _ fl rs refl
    (none_or (store (get_or regs 7 0) (size_of w) _ rs) _ (λ rs. iterated_silent rep _ df n fl rs))
asked_is_read inst.Cld n regs eip df fl rs = refl
asked_is_read inst.Std n regs eip df fl rs = refl
asked_is_read inst.Sahf n regs eip df fl rs = refl
asked_is_read inst.Int80 n regs eip df fl rs = refl
asked_is_read inst.Nop n regs eip df fl rs = refl
