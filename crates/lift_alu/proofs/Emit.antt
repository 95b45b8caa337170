-- The lines of a row are allowed where its steps are, and have the values that the steps compute.
use Rattle.std.proofs.Common.{◌≡◌, ℕ, zero, suc, ◌+◌, Bool, true, false, List, [], ◌∷◌, length, get_or, set, sym, ap, ◌∙◌, subst, refl, length-append}
use Rattle.std.specs.Prelude.{nat_eq, if◌then◌else◌, Some}
use Rattle.br_word.specs.declared.types.Width.{Width}
use Rattle.br_word.specs.Words.{size_of}
use Rattle.br_word.specs.Memory.{Region, load, store}
use Rattle.ssa_form.specs.declared.form.Val.{Val}
use Rattle.ssa_form.specs.declared.form.Val.TheVariants.{Line as Of, Num}
use Rattle.ssa_form.specs.declared.form.Line.{Line}
use Rattle.ssa_form.specs.declared.form.Line.TheVariants.{Bin, One, Select, Load, Store}
use Rattle.ssa_form.specs.Value.{Env, value, with_line, line_next, bin_value, one_value, select_value, loaded, stored, IsAllowed}
use Rattle.lift_alu.specs.Steps.{Spot, Gpr, InCf, InPf, InZf, InSf, InOf, InDf, Regs, spot, with_spot, Expr, Cur, Got, Lit, Op, Fn, Sel, Step, Name, Fetch, Put, Write, put, Run, with_reg, named, with_mem, worth, After, Draft, Emitted, append, appended, emit, Rowed, row_step, row_steps}
use Rattle.lift_alu.proofs.Grown.{Grown, one_more, other_regs, Holds, num_holds, still_holds, stored_holds, line_holds}

abbrev pub AllHold : Env → ℕ → List Val → List ℕ → Type 0
AllHold e n [] [] = Unit {0}
AllHold e n [] (x ∷ xs) = ⊥
AllHold e n (v ∷ vs) [] = ⊥
AllHold e n (v ∷ vs) (x ∷ xs) = Holds e n v x × AllHold e n vs xs

pub record RegsHold (e : Env) (n : ℕ) (b : Regs Val) (s : Regs ℕ) : Type 0 where
  pub gpr : AllHold e n b.gpr s.gpr
  pub cf : Holds e n b.cf s.cf
  pub pf : Holds e n b.pf s.pf
  pub zf : Holds e n b.zf s.zf
  pub sf : Holds e n b.sf s.sf
  pub of : Holds e n b.of s.of
  pub df : Holds e n b.df s.df

pub all_get : (e : Env) (n : ℕ) (vs : List Val) (xs : List ℕ) (k : ℕ) → AllHold e n vs xs → Holds e n (get_or vs k (Num 0)) (get_or xs k 0)
all_get e n [] [] k h = num_holds e n 0
all_get e n [] (x ∷ xs) k h = absurd h
all_get e n (v ∷ vs) [] k h = absurd h
all_get e n (v ∷ vs) (x ∷ xs) zero h = h.0
all_get e n (v ∷ vs) (x ∷ xs) (suc k) h = all_get e n vs xs k h.1

all_set : (e : Env) (n : ℕ) (vs : List Val) (xs : List ℕ) (k : ℕ) (v : Val) (x : ℕ) → AllHold e n vs xs → Holds e n v x → AllHold e n (set vs k v) (set xs k x)
all_set e n [] [] k v x h g = tt
all_set e n [] (y ∷ xs) k v x h g = absurd h
all_set e n (w ∷ vs) [] k v x h g = absurd h
all_set e n (w ∷ vs) (y ∷ xs) zero v x h g = (g, h.1)
all_set e n (w ∷ vs) (y ∷ xs) (suc k) v x h g = (h.0, all_set e n vs xs k v x h.1 g)

-- what holds goes on holding
pub record Keeps (e : Env) (n : ℕ) (f : Env) (m : ℕ) : Type 0 where
  pub on : (v : Val) (x : ℕ) → Holds e n v x → Holds f m v x

all_keep : (e f : Env) (n m : ℕ) (vs : List Val) (xs : List ℕ) → Keeps e n f m → AllHold e n vs xs → AllHold f m vs xs
all_keep e f n m [] [] k h = tt
all_keep e f n m [] (x ∷ xs) k h = absurd h
all_keep e f n m (v ∷ vs) [] k h = absurd h
all_keep e f n m (v ∷ vs) (x ∷ xs) k h = (k.on v x h.0, all_keep e f n m vs xs k h.1)

regs_keep : (e f : Env) (n m : ℕ) (b : Regs Val) (s : Regs ℕ) → Keeps e n f m → RegsHold e n b s → RegsHold f m b s
regs_keep e f n m b s k h = record { gpr = all_keep e f n m b.gpr s.gpr k h.gpr; cf = k.on _ _ h.cf; pf = k.on _ _ h.pf; zf = k.on _ _ h.zf; sf = k.on _ _ h.sf; of = k.on _ _ h.of; df = k.on _ _ h.df }

regs_get : (e : Env) (n : ℕ) (b : Regs Val) (s : Regs ℕ) (p : Spot) → RegsHold e n b s → Holds e n (spot p b (Num 0)) (spot p s 0)
regs_get e n b s (Gpr r) h = all_get e n b.gpr s.gpr r h.gpr
regs_get e n b s InCf h = h.cf
regs_get e n b s InPf h = h.pf
regs_get e n b s InZf h = h.zf
regs_get e n b s InSf h = h.sf
regs_get e n b s InOf h = h.of
regs_get e n b s InDf h = h.df

regs_set : (e : Env) (n : ℕ) (b : Regs Val) (s : Regs ℕ) (p : Spot) (v : Val) (x : ℕ) → RegsHold e n b s → Holds e n v x → RegsHold e n (with_spot p v b) (with_spot p x s)
regs_set e n b s (Gpr r) v x h g = record { gpr = all_set e n b.gpr s.gpr r v x h.gpr g; cf = h.cf; pf = h.pf; zf = h.zf; sf = h.sf; of = h.of; df = h.df }
regs_set e n b s InCf v x h g = record { gpr = h.gpr; cf = g; pf = h.pf; zf = h.zf; sf = h.sf; of = h.of; df = h.df }
regs_set e n b s InPf v x h g = record { gpr = h.gpr; cf = h.cf; pf = g; zf = h.zf; sf = h.sf; of = h.of; df = h.df }
regs_set e n b s InZf v x h g = record { gpr = h.gpr; cf = h.cf; pf = h.pf; zf = g; sf = h.sf; of = h.of; df = h.df }
regs_set e n b s InSf v x h g = record { gpr = h.gpr; cf = h.cf; pf = h.pf; zf = h.zf; sf = g; of = h.of; df = h.df }
regs_set e n b s InOf v x h g = record { gpr = h.gpr; cf = h.cf; pf = h.pf; zf = h.zf; sf = h.sf; of = g; df = h.df }
regs_set e n b s InDf v x h g = record { gpr = h.gpr; cf = h.cf; pf = h.pf; zf = h.zf; sf = h.sf; of = h.of; df = g }

-- the environment holds what the run holds
pub record Same (e : Env) (b : Draft) (vals : ℕ → Val) (s : Run) : Type 0 where
  pub regs : RegsHold e (length b.lines) b.regs s.regs
  pub names : (k : ℕ) → Holds e (length b.lines) (vals k) (s.names k)
  pub mem : e.mem ≡ s.mem

same_keeps : (e f : Env) (b c : Draft) (vals : ℕ → Val) (s : Run) (m : List Region) → Keeps e (length b.lines) f (length c.lines) → c.regs ≡ b.regs → f.mem ≡ m → Same e b vals s → Same f c vals (with_mem m s)
same_keeps e f b c vals s m k q g h = record {
  regs = subst (λ r. RegsHold f (length c.lines) r s.regs) (sym q) (regs_keep e f _ _ b.regs s.regs k h.regs);
  names = λ j. k.on _ _ (h.names j);
  mem = g;
}

names_put : (e : Env) (n : ℕ) (vals : ℕ → Val) (xs : ℕ → ℕ) (k : ℕ) (v : Val) (x : ℕ) → ((j : ℕ) → Holds e n (vals j) (xs j)) → Holds e n v x → (j : ℕ) → Holds e n (put k v vals j) (put k x xs j)
names_put e n vals xs k v x h g j = each (nat_eq j k)
  where
    each : (b : Bool) → Holds e n (if b then v else vals j) (if b then x else xs j)
    each true = g
    each false = h j

module _ (b0 : Draft) (e0 : Env) where
  -- the draft has grown, and its environment holds what the run holds
  pub record Stands (b : Draft) (vals : ℕ → Val) (e : Env) (s : Run) : Type 0 where
    pub grown : Grown b0 e0 b e
    pub same : Same e b vals s

  -- an expression's lines leave the run as it is, and its Val has its value
  pub record Valued (b : Draft) (vals : ℕ → Val) (e : Env) (r : Emitted) (s : Run) (x : ℕ) : Type 0 where
    pub env : Env
    pub stands : Stands r.to vals env s
    pub holds : Holds env (length r.to.lines) r.val x
    pub keeps : Keeps e (length b.lines) env (length r.to.lines)

  length_more : (b : Draft) (l : Line) → length (append l b).lines ≡ length b.lines + 1
  length_more b l = length-append b.lines (l ∷ [])

  -- a line with a result
  line_grows : (b : Draft) (vals : ℕ → Val) (e : Env) (s : Run) (l : Line) (x : ℕ) → IsAllowed l e → line_next (length b.lines) l e ≡ with_line (length b.lines) x e → Stands b vals e s → Valued b vals e (appended l b) s x
  line_grows b vals e s l x a q h =
      let n = length b.lines in
      let f = with_line n x e in
      let z : n + 1 ≡ length (append l b).lines = sym (length_more b l) in
      let k : Keeps e n f (length (append l b).lines) = subst (λ m. Keeps e n f m) z (record { on = still_holds e n x }) in
      record {
        env = f;
        stands = record {
          grown = subst (λ g. Grown b0 e0 (append l b) g) q (one_more b0 b e0 e l h.grown a);
          same = same_keeps e f b (append l b) vals s s.mem k refl h.same.mem h.same;
        };
        holds = subst (λ m. Holds f m (Of n) x) z (line_holds e n x);
        keeps = k;
      }

  here : (b : Draft) (vals : ℕ → Val) (e : Env) (s : Run) (v : Val) (x : ℕ) → Stands b vals e s → Holds e (length b.lines) v x → Valued b vals e (record { to = b; val = v }) s x
  here b vals e s v x h g = record { env = e; stands = h; holds = g; keeps = record { on = λ v x k. k } }

  -- from an earlier draft
  from : (b c : Draft) (vals : ℕ → Val) (e f : Env) (r : Emitted) (s : Run) (x : ℕ) → Keeps e (length b.lines) f (length c.lines) → Valued c vals f r s x → Valued b vals e r s x
  from b c vals e f r s x k h = record { env = h.env; stands = h.stands; holds = h.holds; keeps = record { on = λ v y g. h.keeps.on v y (k.on v y g) } }

  two : (f : ℕ → ℕ → ℕ) (a a1 b b1 : ℕ) → a ≡ a1 → b ≡ b1 → f a b ≡ f a1 b1
  two f a a1 b b1 p q = ap (λ u. f u b) p ∙ ap (λ u. f a1 u) q

  three : (f : ℕ → ℕ → ℕ → ℕ) (a a1 b b1 c c1 : ℕ) → a ≡ a1 → b ≡ b1 → c ≡ c1 → f a b c ≡ f a1 b1 c1
  three f a a1 b b1 c c1 p q r = ap (λ u. f u b c) p ∙ two (f a1) b b1 c c1 q r

  expr_values : (x : Expr) (b : Draft) (vals : ℕ → Val) (e : Env) (s : Run) → Stands b vals e s → Valued b vals e (emit vals x b) s (worth x s)
  expr_values (Cur p) b vals e s h = here b vals e s _ _ h (regs_get e _ b.regs s.regs p h.same.regs)
  expr_values (Got k) b vals e s h = here b vals e s _ _ h (h.same.names k)
  expr_values (Lit n) b vals e s h = here b vals e s _ _ h (num_holds e _ n)
  expr_values (Op o x y) b vals e s h =
      let bx = emit vals x b in let by = emit vals y bx.to in
      let p = expr_values x b vals e s h in
      let q = expr_values y bx.to vals p.env s p.stands in
      let l = line_grows by.to vals q.env s (Bin o bx.val by.val) (bin_value o (worth x s) (worth y s)) tt (ap (λ z. with_line (length by.to.lines) z q.env) (two (bin_value o) _ _ _ _ (q.keeps.on _ _ p.holds).reads q.holds.reads)) q.stands in
      from b bx.to vals e p.env _ s _ p.keeps (from bx.to by.to vals p.env q.env _ s _ q.keeps l)
  expr_values (Fn o x) b vals e s h =
      let bx = emit vals x b in
      let p = expr_values x b vals e s h in
      let l = line_grows bx.to vals p.env s (One o bx.val) (one_value o (worth x s)) tt (ap (λ z. with_line (length bx.to.lines) (one_value o z) p.env) p.holds.reads) p.stands in
      from b bx.to vals e p.env _ s _ p.keeps l
  expr_values (Sel x y z) b vals e s h =
      let bx = emit vals x b in let by = emit vals y bx.to in let bz = emit vals z by.to in
      let p = expr_values x b vals e s h in
      let q = expr_values y bx.to vals p.env s p.stands in
      let r = expr_values z by.to vals q.env s q.stands in
      let l = line_grows bz.to vals r.env s (Select bx.val by.val bz.val) (select_value (worth x s) (worth y s) (worth z s)) tt (ap (λ t. with_line (length bz.to.lines) t r.env) (three select_value _ _ _ _ _ _ (r.keeps.on _ _ (q.keeps.on _ _ p.holds)).reads (r.keeps.on _ _ q.holds).reads r.holds.reads)) r.stands in
      from b bx.to vals e p.env _ s _ p.keeps (from bx.to by.to vals p.env q.env _ s _ q.keeps (from by.to bz.to vals q.env r.env _ s _ r.keeps l))

  -- after some steps
  pub record Ended (r : Rowed) (P : Run → Type 0) : Type 0 where
    pub run : Run
    pub env : Env
    pub stands : Stands r.draft r.vals env run
    pub meets : P run

  load_grows : (b : Draft) (vals : ℕ → Val) (e : Env) (s : Run) (w : Width) (v : Val) (at x : ℕ) → value e v ≡ at → load at (size_of w) s.mem ≡ Some x → Stands b vals e s → Valued b vals e (appended (Load w v) b) s x
  load_grows b vals e s w v at x p q h =
      let t : load (value e v) (size_of w) e.mem ≡ Some x = ap (λ k. load k (size_of w) e.mem) p ∙ ap (λ m. load at (size_of w) m) h.same.mem ∙ q in
      line_grows b vals e s (Load w v) x (x, t) (ap (λ z. with_line (length b.lines) (loaded z) e) t) h

  store_stands : (b : Draft) (vals : ℕ → Val) (e : Env) (s : Run) (w : Width) (u v : Val) (at x : ℕ) (m : List Region) → value e u ≡ at → value e v ≡ x → store at (size_of w) x s.mem ≡ Some m → Stands b vals e s → Stands (append (Store w u v) b) vals (record e { mem = m }) (with_mem m s)
  store_stands b vals e s w u v at x m p q r h =
      let l = Store w u v in
      let f = record e { mem = m } in
      let n = length b.lines in
      let t : store (value e u) (size_of w) (value e v) e.mem ≡ Some m = ap (λ k. store k (size_of w) (value e v) e.mem) p ∙ ap (λ k. store at (size_of w) k e.mem) q ∙ ap (λ k. store at (size_of w) x k) h.same.mem ∙ r in
      let z : n + 1 ≡ length (append l b).lines = sym (length_more b l) in
      record {
        grown = subst (λ g. Grown b0 e0 (append l b) g) (ap (λ k. record e { mem = stored e.mem k }) t) (one_more b0 b e0 e l h.grown (m, t));
        same = same_keeps e f b (append l b) vals s m (subst (λ k. Keeps e n f k) z (record { on = λ v x g. stored_holds e f n v x refl refl g })) refl refl h.same;
      }

  -- THE LAW: where the steps are allowed, so are the lines, and they lead to what the steps lead to
  pub steps_hold : (xs : List Step) (r : Rowed) (e : Env) (s : Run) (P : Run → Type 0) → Stands r.draft r.vals e s → After xs s P → Ended (row_steps xs r) P
  unfolding row_step
  steps_hold [] r e s P h a = record { run = s; env = e; stands = h; meets = a }
  steps_hold (Name k x ∷ xs) r e s P h a =
      let p = expr_values x r.draft r.vals e s h in
      let b = emit r.vals x r.draft in
      steps_hold xs (row_step (Name k x) r) p.env (named k (worth x s) s) P (record { grown = p.stands.grown; same = record { regs = p.stands.same.regs; names = names_put p.env _ r.vals s.names k b.val (worth x s) p.stands.same.names p.holds; mem = p.stands.same.mem } }) a
  steps_hold (Fetch k w at ∷ xs) r e s P h a =
      let p = expr_values at r.draft r.vals e s h in
      let b = emit r.vals at r.draft in
      let q = load_grows b.to r.vals p.env s w b.val (worth at s) a.0 p.holds.reads a.1 p.stands in
      steps_hold xs (row_step (Fetch k w at) r) q.env (named k a.0 s) P (record { grown = q.stands.grown; same = record { regs = q.stands.same.regs; names = names_put q.env _ r.vals s.names k _ a.0 q.stands.same.names q.holds; mem = q.stands.same.mem } }) a.2
  steps_hold (Put t x ∷ xs) r e s P h a =
      let p = expr_values x r.draft r.vals e s h in
      let b = emit r.vals x r.draft in
      steps_hold xs (row_step (Put t x) r) p.env (with_reg t (worth x s) s) P (record { grown = other_regs b0 b.to e0 p.env (with_spot t b.val b.to.regs) p.stands.grown; same = record { regs = regs_set p.env _ b.to.regs s.regs t b.val (worth x s) p.stands.same.regs p.holds; names = p.stands.same.names; mem = p.stands.same.mem } }) a
  steps_hold (Write w at x ∷ xs) r e s P h a =
      let bx = emit r.vals at r.draft in let by = emit r.vals x bx.to in
      let p = expr_values at r.draft r.vals e s h in
      let q = expr_values x bx.to r.vals p.env s p.stands in
      steps_hold xs (row_step (Write w at x) r) (record q.env { mem = a.0 }) (with_mem a.0 s) P (store_stands by.to r.vals q.env s w bx.val by.val (worth at s) (worth x s) a.0 (q.keeps.on _ _ p.holds).reads q.holds.reads a.1 q.stands) a.2
