-- Where each instruction leads.
use Rattle.std.proofs.Common.{◌≡◌, ℕ, ◌+◌, ◌-◌, ◌^◌, ◌==◌, Bool, true, false, ◌&&◌, ◌||◌, List, [], ◌∷◌, take, get_or, set, Option, Some, None, ◌⊎◌, inl, inr, ⊎_elim, refl, ap, ◌∙◌, subst, arith}
use Rattle.std.specs.Prelude.{nat_eq, nat_le, if◌then◌else◌}
use Rattle.std.proofs.lemmas.Bool.Decides.{nat_tests}
use Rattle.br_word.specs.declared.types.Width.{Width}
use Rattle.br_word.specs.declared.types.Width.TheVariants.{B8, B32}
use Rattle.br_word.specs.Memory.{Region, load, store}
use Rattle.br_word.specs.Words.{bit}
use Rattle.br_word.specs.State.{Processor, State, flag_of}
use Rattle.ia_inst.specs.declared.inst.Rm.{Rm}
use Rattle.ia_inst.specs.declared.inst.Rm.TheVariants.{Reg, Mem}
use Rattle.ia_inst.specs.declared.inst.Src.{Src}
use Rattle.ia_inst.specs.declared.inst.Src.TheVariants as src
use Rattle.ia_inst.specs.declared.inst.Inst.{Inst}
use Rattle.ia_inst.specs.declared.inst.Inst.TheVariants as inst
use Rattle.ia_inst.specs.declared.inst.Kind.{Kind}
use Rattle.ia_inst.specs.declared.inst.Kind.TheVariants.{Plain, Island, Transfer}
use Rattle.ia_inst.specs.Kinds.{kind_of}
use Rattle.ia_inst.specs.Act.{NextEip, Past, Again, To, Act, Load, Store, Ask, Divides, Calls, Ends, Completion, Next, Denied, Divided, Called, or_denied, perform}
use Rattle.ia_inst.specs.Meaning.{wrap, of_rm, of_src, to_rm, with_carry, condition, pushed, divides, muldiv, pair_of, is_over, iterated, no_changes, meaning}
use Rattle.ia_inst.specs.Wide.{quotient, signed_quotient}
use Rattle.ia_inst.specs.Step.{There, next_eip, act_of, result_of, result_at}
use Rattle.ia_inst.specs.System.{buffer, filled, system, StepResult, On, Bad, or_bad}
use Rattle.block_cut.specs.Transfers.{is_among, leads_by}
use Rattle.ia_inst.proofs.ConditionCases.{either, carry_all, condition_all}
use Rattle.sim_laws.specs.ByKind.{GoesBy}

-- ---- acts that end so, with DF and a place, or call so

module _ (P : Bool → NextEip → Type 0) (C : ℕ → Type 0) where
  abbrev EndsSo : Act → Type 0
  EndsSo (Load at n k) = (v : ℕ) → EndsSo (k v)
  EndsSo (Store at n v a) = EndsSo a
  EndsSo (Ask f k) = (b : Bool) → EndsSo (k b)
  EndsSo Divides = Unit {0}
  EndsSo (Calls n) = C n
  EndsSo (Ends regs df ch to) = P df to

  abbrev IsSo : Completion → Type 0
  IsSo (Next u rs to) = P u.df to
  IsSo (Denied at) = Unit {0}
  IsSo Divided = Unit {0}
  IsSo (Called n) = C n

  or_so : {X : Type 0} (at : ℕ) (o : Option X) (go : X → Completion) → ((x : X) → IsSo (go x)) → IsSo (or_denied at o go)
  or_so at None go h = tt
  or_so at (Some x) go h = h x

  perform_so : (a : Act) (c : ℕ) (u : Processor) (rs : List Region) → EndsSo a → IsSo (perform a c u rs)
  perform_so (Load at n k) c u rs h = or_so at (load at n rs) _ (λ v. perform_so (k v) c u rs (h v))
  perform_so (Store at n v a) c u rs h = or_so at (store at n v rs) _ (λ ss. perform_so a c u ss h)
  perform_so (Ask f k) c u rs h = perform_so (k (flag_of f u.flags)) c u rs (h (flag_of f u.flags))
  perform_so Divides c u rs h = tt
  perform_so (Calls n) c u rs h = h
  perform_so (Ends regs df ch to) c u rs h = h

  of_rm_so : (w : Width) (a : Rm) (regs : List ℕ) (go : ℕ → Act) → ((v : ℕ) → EndsSo (go v)) → EndsSo (of_rm w a regs go)
  of_rm_so w (Reg r) regs go h = h _
  of_rm_so w (Mem a) regs go h = h

  of_src_so : (w : Width) (s : Src) (regs : List ℕ) (go : ℕ → Act) → ((v : ℕ) → EndsSo (go v)) → EndsSo (of_src w s regs go)
  of_src_so w (src.Rm a) regs go h = of_rm_so w a regs go h
  of_src_so w (src.Imm n) regs go h = h n

  to_rm_so : (w : Width) (a : Rm) (v : ℕ) (regs : List ℕ) (go : List ℕ → Act) → ((regs : List ℕ) → EndsSo (go regs)) → EndsSo (to_rm w a v regs go)
  to_rm_so w (Reg r) v regs go h = h _
  to_rm_so w (Mem a) v regs go h = h regs

  carry_so : (op : ℕ) (go : Bool → Act) → ((b : Bool) → EndsSo (go b)) → EndsSo (with_carry op go)
  carry_so op go h = carry_all EndsSo (λ f k h. h) op go h

  condition_so : (c : ℕ) (go : Bool → Act) → ((b : Bool) → EndsSo (go b)) → EndsSo (condition c go)
  condition_so c go h = condition_all EndsSo (λ f k h. h) c go h

  divides_so : (p : Option (ℕ × ℕ)) (n : ℕ) (regs : List ℕ) (df : Bool) → P df (Past n) → EndsSo (divides p n regs df)
  divides_so None n regs df h = tt
  divides_so (Some p) n regs df h = h

  muldiv_so : (op b n : ℕ) (regs : List ℕ) (df : Bool) → P df (Past n) → EndsSo (muldiv op b n regs df)
  muldiv_so op b n regs df h =
      either EndsSo (op == 4) _ _ h
      (either EndsSo (op == 5) _ _ h
      (either EndsSo (op == 6) _ _ (divides_so (quotient (pair_of regs) b) n regs df h) (divides_so (signed_quotient (pair_of regs) b) n regs df h)))

  iterated_so : (rep : Bool) (regs : List ℕ) (df : Bool) (n : ℕ) → P df (Past n) → P df Again → EndsSo (iterated rep regs df n)
  iterated_so false regs df n h k = h
  iterated_so true regs df n h k = next (wrap (get_or regs 1 0 + 2 ^ 32 - 1) == 0)
    where
      next : (b : Bool) → P df (if b then Past n else Again)
      next true = h
      next false = k

-- ---- every instruction

-- DF and the place behind an instruction of n bytes at this address
abbrev pub Leaves : Kind → Inst → ℕ → ℕ → Bool → Bool → NextEip → Type 0
Leaves Plain i n eip df e to = to ≡ Past n
Leaves Island i n eip df e to = ((to ≡ Past n) ⊎ (to ≡ Again)) × (e ≡ df)
Leaves Transfer i n eip df e to = (leads_by (There i n) eip (next_eip to eip) ≡ true) × (e ≡ df)

abbrev pub CallsSo : Kind → Inst → ℕ → ℕ → Type 0
CallsSo Plain i n m = ⊥
CallsSo Island i n m = (m ≡ n) × (i ≡ inst.Int80)
CallsSo Transfer i n m = ⊥

abbrev Leads : Inst → ℕ → ℕ → Bool → Act → Type 0
Leads i n eip df a = EndsSo (Leaves (kind_of i) i n eip df) (CallsSo (kind_of i) i n) a

first_target : (x : ℕ) (ys : List ℕ) → is_among (x ∷ ys) x ≡ true
first_target x ys = ap (λ b. b || is_among ys x) (same x)
  where
    same : (x : ℕ) → (x == x) ≡ true
    same x = grind (arith, nat_tests)

second_target : (x y : ℕ) → is_among (x ∷ y ∷ []) y ≡ true
second_target x y = ap (λ b. y == x || b) (first_target y []) ∙ always (y == x)
  where
    always : (b : Bool) → (b || true) ≡ true
    always true = refl
    always false = refl

leads : (i : Inst) (n : ℕ) (regs : List ℕ) (eip : ℕ) (df : Bool) → Leads i n eip df (meaning i n regs eip df)
unfolding meaning
leads (inst.Alu op w a s) n regs eip df = carry_so (Leaves Plain (inst.Alu op w a s) n eip df) (CallsSo Plain (inst.Alu op w a s) n) op _ (λ c. of_rm_so (Leaves Plain (inst.Alu op w a s) n eip df) (CallsSo Plain (inst.Alu op w a s) n) w a regs _ (λ x. of_src_so (Leaves Plain (inst.Alu op w a s) n eip df) (CallsSo Plain (inst.Alu op w a s) n) w s regs _ (λ y. either (EndsSo (Leaves Plain (inst.Alu op w a s) n eip df) (CallsSo Plain (inst.Alu op w a s) n)) (op == 7) _ _ refl (to_rm_so (Leaves Plain (inst.Alu op w a s) n eip df) (CallsSo Plain (inst.Alu op w a s) n) w a _ regs _ (λ regs. refl)))))
leads (inst.Test w a s) n regs eip df = of_rm_so (Leaves Plain (inst.Test w a s) n eip df) (CallsSo Plain (inst.Test w a s) n) w a regs _ (λ x. of_src_so (Leaves Plain (inst.Test w a s) n eip df) (CallsSo Plain (inst.Test w a s) n) w s regs _ (λ y. refl))
leads (inst.Mov w a s) n regs eip df = of_src_so (Leaves Plain (inst.Mov w a s) n eip df) (CallsSo Plain (inst.Mov w a s) n) w s regs _ (λ y. to_rm_so (Leaves Plain (inst.Mov w a s) n eip df) (CallsSo Plain (inst.Mov w a s) n) w a _ regs _ (λ regs. refl))
leads (inst.Lea w g a) n regs eip df = refl
leads (inst.Xchg w a g) n regs eip df = of_rm_so (Leaves Plain (inst.Xchg w a g) n eip df) (CallsSo Plain (inst.Xchg w a g) n) w a regs _ (λ x. to_rm_so (Leaves Plain (inst.Xchg w a g) n eip df) (CallsSo Plain (inst.Xchg w a g) n) w a _ regs _ (λ regs. refl))
leads (inst.Inc w a) n regs eip df = of_rm_so (Leaves Plain (inst.Inc w a) n eip df) (CallsSo Plain (inst.Inc w a) n) w a regs _ (λ x. to_rm_so (Leaves Plain (inst.Inc w a) n eip df) (CallsSo Plain (inst.Inc w a) n) w a _ regs _ (λ regs. refl))
leads (inst.Dec w a) n regs eip df = of_rm_so (Leaves Plain (inst.Dec w a) n eip df) (CallsSo Plain (inst.Dec w a) n) w a regs _ (λ x. to_rm_so (Leaves Plain (inst.Dec w a) n eip df) (CallsSo Plain (inst.Dec w a) n) w a _ regs _ (λ regs. refl))
leads (inst.Not w a) n regs eip df = of_rm_so (Leaves Plain (inst.Not w a) n eip df) (CallsSo Plain (inst.Not w a) n) w a regs _ (λ x. to_rm_so (Leaves Plain (inst.Not w a) n eip df) (CallsSo Plain (inst.Not w a) n) w a _ regs _ (λ regs. refl))
leads (inst.Neg w a) n regs eip df = of_rm_so (Leaves Plain (inst.Neg w a) n eip df) (CallsSo Plain (inst.Neg w a) n) w a regs _ (λ x. to_rm_so (Leaves Plain (inst.Neg w a) n eip df) (CallsSo Plain (inst.Neg w a) n) w a _ regs _ (λ regs. refl))
leads (inst.Shift op w a k) n regs eip df = of_rm_so (Leaves Plain (inst.Shift op w a k) n eip df) (CallsSo Plain (inst.Shift op w a k) n) w a regs _ (λ x. to_rm_so (Leaves Plain (inst.Shift op w a k) n eip df) (CallsSo Plain (inst.Shift op w a k) n) w a _ regs _ (λ regs. refl))
leads (inst.Push s) n regs eip df = of_src_so (Leaves Plain (inst.Push s) n eip df) (CallsSo Plain (inst.Push s) n) B32 s regs _ (λ y. refl)
leads (inst.Pop a) n regs eip df = λ v. to_rm_so (Leaves Plain (inst.Pop a) n eip df) (CallsSo Plain (inst.Pop a) n) B32 a v _ _ (λ regs. refl)
leads (inst.MulDiv op a) n regs eip df = of_rm_so (Leaves Island (inst.MulDiv op a) n eip df) (CallsSo Island (inst.MulDiv op a) n) B32 a regs _ (λ b. muldiv_so (Leaves Island (inst.MulDiv op a) n eip df) (CallsSo Island (inst.MulDiv op a) n) op b n regs df (inl refl, refl))
leads (inst.Imul g a by) n regs eip df = of_rm_so (Leaves Plain (inst.Imul g a by) n eip df) (CallsSo Plain (inst.Imul g a by) n) B32 a regs _ (λ b. refl)
leads (inst.Rotate right a k) n regs eip df = of_rm_so (Leaves Island (inst.Rotate right a k) n eip df) (CallsSo Island (inst.Rotate right a k) n) B32 a regs _ (λ x. to_rm_so (Leaves Island (inst.Rotate right a k) n eip df) (CallsSo Island (inst.Rotate right a k) n) B32 a _ regs _ (λ regs. (inl refl, refl)))
leads inst.Cwde n regs eip df = refl
leads inst.Cdq n regs eip df = refl
leads (inst.Extend signs from to g a) n regs eip df = of_rm_so (Leaves Plain (inst.Extend signs from to g a) n eip df) (CallsSo Plain (inst.Extend signs from to g a) n) from a regs _ (λ x. refl)
leads (inst.Setcc c a) n regs eip df = condition_so (Leaves Plain (inst.Setcc c a) n eip df) (CallsSo Plain (inst.Setcc c a) n) c (λ b. to_rm B8 a (bit b) regs (λ regs. Ends regs df no_changes (Past n))) (λ b. to_rm_so (Leaves Plain (inst.Setcc c a) n eip df) (CallsSo Plain (inst.Setcc c a) n) B8 a (bit b) regs _ (λ regs. refl))
leads (inst.Cmov c g a) n regs eip df = condition_so (Leaves Plain (inst.Cmov c g a) n eip df) (CallsSo Plain (inst.Cmov c g a) n) c (λ b. of_rm B32 a regs (λ v. Ends (if b then set regs g v else regs) df no_changes (Past n))) (λ b. of_rm_so (Leaves Plain (inst.Cmov c g a) n eip df) (CallsSo Plain (inst.Cmov c g a) n) B32 a regs _ (λ x. refl))
leads (inst.Jcc c rel) n regs eip df = condition_so (Leaves Transfer (inst.Jcc c rel) n eip df) (CallsSo Transfer (inst.Jcc c rel) n) c (λ b. Ends regs df no_changes (if b then To (wrap (eip + n + rel)) else Past n)) there
  where
    there : (b : Bool) → Leaves Transfer (inst.Jcc c rel) n eip df df (if b then To (wrap (eip + n + rel)) else Past n)
    there true = (first_target (wrap (eip + n + rel)) (wrap (eip + n) ∷ []), refl)
    there false = (second_target (wrap (eip + n + rel)) (wrap (eip + n)), refl)
leads (inst.Jmp rel) n regs eip df = (first_target (wrap (eip + n + rel)) [], refl)
leads (inst.JmpRm a) n regs eip df = of_rm_so (Leaves Transfer (inst.JmpRm a) n eip df) (CallsSo Transfer (inst.JmpRm a) n) B32 a regs (λ t. Ends regs df no_changes (To t)) (λ t. (refl, refl))
leads (inst.Call rel) n regs eip df = (first_target (wrap (eip + n + rel)) [], refl)
leads (inst.CallRm a) n regs eip df = of_rm_so (Leaves Transfer (inst.CallRm a) n eip df) (CallsSo Transfer (inst.CallRm a) n) B32 a regs (λ t. pushed (wrap (eip + n)) regs (λ regs. Ends regs df no_changes (To t))) (λ t. (refl, refl))
leads (inst.Ret pop) n regs eip df = λ t. (refl, refl)
leads inst.Leave n regs eip df = λ v. refl
leads (inst.Movs w rep) n regs eip df = either (EndsSo (Leaves Island (inst.Movs w rep) n eip df) (CallsSo Island (inst.Movs w rep) n)) (is_over rep regs) _ _ (inl refl, refl) (λ v. iterated_so (Leaves Island (inst.Movs w rep) n eip df) (CallsSo Island (inst.Movs w rep) n) rep _ df n (inl refl, refl) (inr refl, refl))
leads (inst.Stos w rep) n regs eip df = either (EndsSo (Leaves Island (inst.Stos w rep) n eip df) (CallsSo Island (inst.Stos w rep) n)) (is_over rep regs) _ _ (inl refl, refl) (iterated_so (Leaves Island (inst.Stos w rep) n eip df) (CallsSo Island (inst.Stos w rep) n) rep _ df n (inl refl, refl) (inr refl, refl))
leads inst.Cld n regs eip df = refl
leads inst.Std n regs eip df = refl
leads inst.Sahf n regs eip df = (inl refl, refl)
leads inst.Int80 n regs eip df = (refl, refl)
leads inst.Nop n regs eip df = refl

-- ---- steps

-- a system call goes on behind it, with the same DF
abbrev Returns : ℕ → State → StepResult → Type 0
Returns next s (On t) = (t.eip ≡ next) × (t.cpu.df ≡ s.cpu.df)
Returns next s (Bad f) = Unit {0}

module _ (next : ℕ) (s : State) where
  one_way : (b : Bool) (d f : StepResult) → Returns next s d → Returns next s f → Returns next s (if b then d else f)
  one_way true d f x y = x
  one_way false d f x y = y

  or_way : {X : Type 0} (at : ℕ) (o : Option X) (go : X → StepResult) → ((v : X) → Returns next s (go v)) → Returns next s (or_bad at o go)
  or_way at None go k = tt
  or_way at (Some v) go k = k v

  returns : Returns next s (system next s)
  unfolding system
  returns =
      let number = get_or s.cpu.regs 0 0 in
      let ecx = get_or s.cpu.regs 1 0 in
      let edx = get_or s.cpu.regs 2 0 in
      let ebx = get_or s.cpu.regs 3 0 in
      one_way (nat_eq number 1) _ _ (refl, refl)
      (one_way (nat_eq number 3) _ _
      (one_way (nat_eq ebx 0) _ _ (or_way ecx (filled ecx (take edx s.input) s.regions) _ (λ ss. (refl, refl))) (refl, refl))
      (one_way (nat_eq number 4) _ _
      (one_way (nat_eq ebx 1) _ _ (or_way ecx (buffer ecx edx s.regions) _ (λ bs. (refl, refl)))
      (one_way (nat_eq ebx 2) _ _ (or_way ecx (buffer ecx edx s.regions) _ (λ bs. (refl, refl))) (refl, refl)))
      (one_way (nat_eq number 45) _ _
      (one_way (nat_le s.brk_start ebx && nat_le ebx (s.brk_start + 67108864)) _ _ (refl, refl) (refl, refl))
      (refl, refl))))

same_on : (t u : State) → On t ≡ On u → t ≡ u
same_on t u e = cc

module _ (i : Inst) (n : ℕ) (s : State) where
  -- from the place of an act's end to the state
  goes : (k : Kind) (u : Processor) (rs : List Region) (to : NextEip) → Leaves k i n s.eip s.cpu.df u.df to → GoesBy k i n s (record s { eip = next_eip to s.eip; cpu = u; regions = rs })
  goes Plain u rs to h = (ap (λ to. next_eip to s.eip) h, record { seen = refl; brk = refl })
  goes Island u rs to h = (⊎_elim (λ e. inl (ap (λ to. next_eip to s.eip) e)) (λ e. inr (ap (λ to. next_eip to s.eip) e)) h.0, h.1, λ x. record { seen = refl; brk = refl })
  goes Transfer u rs to h = (h.0, h.1, record { seen = refl; brk = refl })

  called : (k : Kind) (m : ℕ) (t : State) → CallsSo k i n m → Returns (wrap (s.eip + m)) s (On t) → GoesBy k i n s t
  called Plain m t h r = absurd h
  called Island m t h r = (inl (r.0 ∙ ap (λ m. wrap (s.eip + m)) h.0), r.1, λ x. absurd (x h.1))
  called Transfer m t h r = absurd h

  by_end : (k : Kind) (e : Completion) (t : State) → IsSo (Leaves k i n s.eip s.cpu.df) (CallsSo k i n) e → result_of e s ≡ On t → GoesBy k i n s t
  by_end k (Next u rs to) t h w = let is : record s { eip = next_eip to s.eip; cpu = u; regions = rs } ≡ t = same_on _ t w in subst (GoesBy k i n s) is (goes k u rs to h)
  by_end k (Denied at) t h w = cc
  by_end k Divided t h w = cc
  by_end k (Called m) t h w = called k m t h (subst (Returns (wrap (s.eip + m)) s) w (returns (wrap (s.eip + m)) s))

  pub goes_by_kind : (t : State) (c : ℕ) → result_at (There i n) s c ≡ On t → GoesBy (kind_of i) i n s t
  goes_by_kind t c w =
      by_end (kind_of i) (perform (act_of i n s) c s.cpu s.regions) t
      (perform_so (Leaves (kind_of i) i n s.eip s.cpu.df) (CallsSo (kind_of i) i n) (act_of i n s) c s.cpu s.regions (leads i n s.cpu.regs s.eip s.cpu.df)) w
