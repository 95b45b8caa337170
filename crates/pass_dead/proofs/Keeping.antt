-- Pruning keeps values.
use Rattle.std.proofs.Common.{◌≡◌, ℕ, suc, Bool, true, false, List, [], ◌∷◌, length, get_or, sym, ap, ◌∙◌, refl, arith}
use Rattle.std.specs.Prelude.{nat_eq, if◌then◌else◌}
use Rattle.std.proofs.lemmas.Bool.{ne_eqb}
use Rattle.br_word.specs.Words.{size_of}
use Rattle.br_word.specs.Memory.{load, store}
use Rattle.ssa_form.specs.declared.form.Val.{Val}
use Rattle.ssa_form.specs.declared.form.Val.TheVariants.{Param, Line as Of, Num}
use Rattle.ssa_form.specs.declared.form.Line.{Line}
use Rattle.ssa_form.specs.declared.form.Line.TheVariants.{Bin, One, Select, Load, Store, Gone}
use Rattle.ssa_form.specs.declared.form.Exit.{Exit}
use Rattle.ssa_form.specs.declared.form.Exit.TheVariants.{Jump, Cond, Way, Island}
use Rattle.ssa_form.specs.declared.form.Block.{Block}
use Rattle.ssa_form.specs.Agree.{every}
use Rattle.ssa_form.specs.Value.{Env, value, with_line, line_next, fold, IsAllowed, AllAllowed, numbered, bin_value, one_value, select_value, loaded, stored, exit_of}
use Rattle.ssa_form.specs.Checked.{checked}
use Rattle.ssa_form.specs.Same.{start_env, end_env, KeepsMeaning}
use Rattle.pass_dead.specs.Names.{vals_of, exit_vals, is_store, NamedIn, ValsIn, IsClosed, IsLeast}
use Rattle.pass_dead.specs.Needed.{always, needed, roots_of, kept_lines, pruned}
use Rattle.pass_dead.proofs.Bools.{and_left, and_right, or_left, or_right}
use Rattle.pass_dead.proofs.Least.{val_in, vals_in, needed_least}
use Rattle.pass_dead.proofs.Stores.{MustStay, HasStores, has_stores, outs_named}

two : {A B C : Type 0} (f : A → B → C) (a a' : A) (b b' : B) → a ≡ a' → b ≡ b' → f a b ≡ f a' b'
two f a a' b b' e g = ap (λ x. f x b) e ∙ ap (f a') g

three : {A B C D : Type 0} (f : A → B → C → D) (a a' : A) (b b' : B) (c c' : C) → a ≡ a' → b ≡ b' → c ≡ c' → f a b c ≡ f a' b' c'
three f a a' b b' c c' e g h = ap (λ x. f x b c) e ∙ ap (λ y. f a' y c) g ∙ ap (f a' b') h

-- the same at the lines that are kept
pub record Agree (keep : ℕ → Bool) (e f : Env) : Type 0 where
  pub params : f.params ≡ e.params
  pub mem : f.mem ≡ e.mem
  pub lines : (j : ℕ) → keep j ≡ true → f.lines j ≡ e.lines j

module _ (keep : ℕ → Bool) where
  val_same : (e f : Env) (v : Val) → Agree keep e f → NamedIn every keep v → value f v ≡ value e v
  val_same e f (Param v) h i = ap (λ g. g v) h.params
  val_same e f (Of j) h i = h.lines j i
  val_same e f (Num n) h i = refl

  named_both : (n x y : ℕ) (e f : Env) → y ≡ x → Agree keep e f → Agree keep (with_line n x e) (with_line n y f)
  named_both n x y e f q h = record { params = h.params; mem = h.mem; lines = λ j k. pick (nat_eq j n) j k }
    where
      pick : (b : Bool) (j : ℕ) → keep j ≡ true → (if b then y else f.lines j) ≡ (if b then x else e.lines j)
      pick true j k = q
      pick false j k = h.lines j k

  named_one : (n x : ℕ) (e f : Env) → keep n ≡ false → Agree keep e f → Agree keep (with_line n x e) f
  named_one n x e f q h = record { params = h.params; mem = h.mem; lines = λ j k. h.lines j k ∙ sym (other j k) }
    where
      differ : (j : ℕ) → keep j ≡ true → j ≡ n → ⊥
      differ j k z = let a : keep n ≡ true = ap keep (sym z) ∙ k in cc

      other : (j : ℕ) → keep j ≡ true → (if nat_eq j n then x else e.lines j) ≡ e.lines j
      other j k = ap (λ (b : Bool). if b then x else e.lines j) (ne_eqb j n (differ j k))

  stays : (n : ℕ) (l : Line) (e f : Env) → ValsIn every keep (vals_of l) → Agree keep e f → Agree keep (line_next n l e) (line_next n l f)
  stays n (Bin o a b) e f i h = named_both n _ _ e f (two (bin_value o) _ _ _ _ (val_same e f a h i.0) (val_same e f b h i.1.0)) h
  stays n (One o a) e f i h = named_both n _ _ e f (ap (one_value o) (val_same e f a h i.0)) h
  stays n (Select c a b) e f i h = named_both n _ _ e f (three select_value _ _ _ _ _ _ (val_same e f c h i.0) (val_same e f a h i.1.0) (val_same e f b h i.1.1.0)) h
  stays n (Load w at) e f i h = named_both n _ _ e f (ap loaded (two (λ a m. load a (size_of w) m) _ _ _ _ (val_same e f at h i.0) h.mem)) h
  stays n (Store w at a) e f i h = record { params = h.params; mem = three (λ p v m. stored m (store p (size_of w) v m)) _ _ _ _ _ _ (val_same e f at h i.0) (val_same e f a h i.1.0) h.mem; lines = h.lines }
  stays n Gone e f i h = h

  goes : (n : ℕ) (l : Line) (e f : Env) → keep n ≡ false → MustStay (keep n) l → Agree keep e f → Agree keep (line_next n l e) f
  goes n (Bin o a b) e f q s h = named_one n _ e f q h
  goes n (One o a) e f q s h = named_one n _ e f q h
  goes n (Select c a b) e f q s h = named_one n _ e f q h
  goes n (Load w at) e f q s h = named_one n _ e f q h
  goes n (Store w at a) e f q s h = absurd (let k = s refl in cc)
  goes n Gone e f q s h = h

  stays_allowed : (l : Line) (e f : Env) → ValsIn every keep (vals_of l) → Agree keep e f → IsAllowed l e → IsAllowed l f
  stays_allowed (Bin o a b) e f i h q = tt
  stays_allowed (One o a) e f i h q = tt
  stays_allowed (Select c a b) e f i h q = tt
  stays_allowed (Load w at) e f i h q = (q.0, two (λ a m. load a (size_of w) m) _ _ _ _ (val_same e f at h i.0) h.mem ∙ q.1)
  stays_allowed (Store w at a) e f i h q = (q.0, three (λ p v m. store p (size_of w) v m) _ _ _ _ _ _ (val_same e f at h i.0) (val_same e f a h i.1.0) h.mem ∙ q.1)
  stays_allowed Gone e f i h q = tt

  step : (b : Bool) (n : ℕ) (l : Line) (e f : Env) → keep n ≡ b → (keep n ≡ true → ValsIn every keep (vals_of l)) → MustStay (keep n) l → Agree keep e f → Agree keep (line_next n l e) (line_next n (if b then l else Gone) f)
  step true n l e f q i s h = stays n l e f (i q) h
  step false n l e f q i s h = goes n l e f q s h

  step_allowed : (b : Bool) (n : ℕ) (l : Line) (e f : Env) → keep n ≡ b → (keep n ≡ true → ValsIn every keep (vals_of l)) → Agree keep e f → IsAllowed l e → IsAllowed (if b then l else Gone) f
  step_allowed true n l e f q i h a = stays_allowed l e f (i q) h a
  step_allowed false n l e f q i h a = tt

  lines_agree : (n : ℕ) (ls : List Line) (e f : Env) → IsClosed every keep n ls → HasStores keep n ls → Agree keep e f → Agree keep (fold (numbered n ls) e) (fold (numbered n (kept_lines keep n ls)) f)
  lines_agree n [] e f i s h = h
  lines_agree n (l ∷ ls) e f i s h = lines_agree (suc n) ls _ _ i.1 s.1 (step (keep n) n l e f refl i.0 s.0 h)

  lines_allowed : (n : ℕ) (ls : List Line) (e f : Env) → IsClosed every keep n ls → HasStores keep n ls → Agree keep e f → AllAllowed (numbered n ls) e → AllAllowed (numbered n (kept_lines keep n ls)) f
  lines_allowed n [] e f i s h a = tt
  lines_allowed n (l ∷ ls) e f i s h a = (step_allowed (keep n) n l e f refl i.0 h a.0, lines_allowed (suc n) ls _ _ i.1 s.1 (step (keep n) n l e f refl i.0 s.0 h) a.1)

  exit_same : (x : Exit) (e f : Env) → ValsIn every keep (exit_vals x) → Agree keep e f → exit_of x f ≡ exit_of x e
  exit_same (Jump to) e f i h = refl
  exit_same (Cond test taken next) e f i h = ap (λ z. select_value z taken next) (val_same e f test h i.0)
  exit_same (Way v) e f i h = val_same e f v h i.0
  exit_same (Island len) e f i h = refl

-- pruning keeps what the block may do and gives
pub prune_keeps : (b : Block) → checked b ≡ true → KeepsMeaning b (pruned b)
prune_keeps b c p m small bytes a =
    let keep : ℕ → Bool = needed b.lines (roots_of every b) in
    let least : IsLeast b.lines (roots_of every b) keep = needed_least b.lines _ (and_left _ _ (and_right (nat_eq (length b.outs) 14) _ c)) in
    let e = start_env p m in
    let same : Agree keep e e = record { params = refl; mem = refl; lines = λ j k. refl } in
    let stores : HasStores keep 0 b.lines = has_stores keep 0 b.lines (λ k j q i. let z : k ≡ j = omega arith in least.has j (or_left _ _ (or_left _ _ (ap (λ i. is_store (get_or b.lines i Gone)) (sym z) ∙ i)))) in
    let h : Agree keep (end_env b p m) (end_env (pruned b) p m) = lines_agree keep 0 b.lines e e least.closed stores same in
    record {
      allowed = lines_allowed keep 0 b.lines e e least.closed stores same a;
      outs = λ v l. val_same keep _ _ (get_or b.outs v (Num 0)) h (val_in keep (get_or b.outs v (Num 0)) (λ j i. least.has j (or_right (always b j) _ (outs_named every 0 b.outs v v j (omega arith) refl i))));
      memory = h.mem;
      exit = exit_same keep b.exit _ _ (vals_in keep (exit_vals b.exit) (λ j i. least.has j (or_left _ _ (or_right (is_store (get_or b.lines j Gone)) _ i)))) h;
    }
