-- A row keeps a block checked.
use Rattle.std.proofs.Common.{◌≡◌, ℕ, zero, suc, ◌+◌, ◌<◌, ◌≤◌, Bool, true, false, ◌&&◌, List, [], ◌∷◌, ◌++◌, length, get_or, set, take, ap, ◌∙◌, subst, refl, arith, length-append}
use Rattle.std.specs.Prelude.{nat_eq, nat_lt, if◌then◌else◌}
use Rattle.std.proofs.lemmas.Bool.{eq-eqb, eqb-true}
use Rattle.std.proofs.lemmas.Bool.Decides.{nat_tests}
use Rattle.std.proofs.Math.ListN.{get_or-append}
use Rattle.ia_inst.specs.declared.inst.Inst.{Inst}
use Rattle.ia_inst.specs.Meaning.{wrap}
use Rattle.ssa_form.specs.declared.form.Block.{Block}
use Rattle.ssa_form.specs.declared.form.Val.{Val}
use Rattle.ssa_form.specs.declared.form.Val.TheVariants.{Param, Line as Of, Num}
use Rattle.ssa_form.specs.declared.form.Line.{Line}
use Rattle.ssa_form.specs.declared.form.Line.TheVariants.{Bin, One, Select, Load, Store, Gone}
use Rattle.ssa_form.specs.Checked.{has_result, val_checked, line_checked, lines_checked, vals_checked, exit_checked, checked}
use Rattle.lift_alu.specs.Steps.{Spot, Gpr, InCf, InPf, InZf, InSf, InOf, InDf, Regs, spot, with_spot, Expr, Cur, Got, Lit, Op, Fn, Sel, Step, Name, Fetch, Put, Write, put, Draft, Emitted, append, appended, emit, Rowed, row_step, row_steps, unnamed}
use Rattle.lift_alu.specs.Lifted.{Leaving, Onward, Either, Away, leaving_of, row_of, exit_by, regs_of, draft_of, lifted}
use Rattle.lift_alu.proofs.OperandLaws.{and_left, and_right, below_of}
use Rattle.lift_alu.proofs.Whole.{steps_count, take_count}

both : (a b : Bool) → a ≡ true → b ≡ true → (a && b) ≡ true
both a b p q = rw (p, q) refl

test_of : (a b : ℕ) → a < b → nat_lt a b ≡ true
test_of a b l = grind (arith, nat_tests)

-- ---- with more lines
val_more : (ls more : List Line) (n m : ℕ) (v : Val) → n ≤ length ls → n ≤ m → val_checked ls n v ≡ true → val_checked (ls ++ more) m v ≡ true
val_more ls more n m (Param k) a b h = h
val_more ls more n m (Of j) a b h =
    let l = below_of j n (and_left (nat_lt j n) _ h) in
    let r = and_right (nat_lt j n) _ h in
    let g : j < length ls = omega arith in
    both (nat_lt j m) _ (test_of j m (omega arith)) (ap has_result (get_or-append ls more Gone j g) ∙ r)
val_more ls more n m (Num k) a b h = refl

line_more : (ls more : List Line) (n : ℕ) (l : Line) → n ≤ length ls → line_checked ls n l ≡ true → line_checked (ls ++ more) n l ≡ true
line_more ls more n (Bin op a b) q h = both _ _ (val_more ls more n n a q (omega arith) (and_left (val_checked ls n a) _ h)) (val_more ls more n n b q (omega arith) (and_right (val_checked ls n a) _ h))
line_more ls more n (One op a) q h = val_more ls more n n a q (omega arith) h
line_more ls more n (Select c a b) q h =
    let r = and_right (val_checked ls n c) _ h in
    both _ _ (val_more ls more n n c q (omega arith) (and_left (val_checked ls n c) _ h)) (both _ _ (val_more ls more n n a q (omega arith) (and_left (val_checked ls n a) _ r)) (val_more ls more n n b q (omega arith) (and_right (val_checked ls n a) _ r)))
line_more ls more n (Load w at) q h = val_more ls more n n at q (omega arith) h
line_more ls more n (Store w at a) q h = both _ _ (val_more ls more n n at q (omega arith) (and_left (val_checked ls n at) _ h)) (val_more ls more n n a q (omega arith) (and_right (val_checked ls n at) _ h))
line_more ls more n Gone q h = refl

lines_more : (ls more : List Line) (n : ℕ) (rest : List Line) → n + length rest ≤ length ls → lines_checked ls n rest ≡ true → lines_checked (ls ++ more) n rest ≡ true
lines_more ls more n [] q h = refl
lines_more ls more n (l ∷ rest) q h = both _ _ (line_more ls more n l (omega arith) (and_left (line_checked ls n l) _ h)) (lines_more ls more (suc n) rest (omega arith) (and_right (line_checked ls n l) _ h))

lines_last : (ls : List Line) (n : ℕ) (rest : List Line) (l : Line) → lines_checked ls n rest ≡ true → line_checked ls (n + length rest) l ≡ true → lines_checked ls n (rest ++ l ∷ []) ≡ true
lines_last ls n [] l h g = let z : n + 0 ≡ n = omega arith in both _ _ (subst (λ k. line_checked ls k l ≡ true) z g) refl
lines_last ls n (x ∷ rest) l h g = let z : n + suc (length rest) ≡ suc n + length rest = omega arith in both _ _ (and_left (line_checked ls n x) _ h) (lines_last ls (suc n) rest l (and_right (line_checked ls n x) _ h) (subst (λ k. line_checked ls k l ≡ true) z g))

-- ---- drafts whose names stand for something
abbrev Stands : Draft → Val → Type 0
Stands b v = val_checked b.lines (length b.lines) v ≡ true

record Good (b : Draft) (vals : ℕ → Val) : Type 0 where
  lines : lines_checked b.lines 0 b.lines ≡ true
  regs : (p : Spot) → Stands b (spot p b.regs (Num 0))
  names : (k : ℕ) → Stands b (vals k)

record Made (b : Draft) (vals : ℕ → Val) (r : Emitted) : Type 0 where
  good : Good r.to vals
  val : Stands r.to r.val
  keeps : (v : Val) → Stands b v → Stands r.to v

one_line : (b : Draft) (l : Line) (v : Val) → Stands b v → Stands (append l b) v
one_line b l v h = let e = length-append b.lines (l ∷ []) in val_more b.lines (l ∷ []) (length b.lines) (length (b.lines ++ l ∷ [])) v (omega arith) (omega arith) h

good_line : (b : Draft) (vals : ℕ → Val) (l : Line) → Good b vals → line_checked b.lines (length b.lines) l ≡ true → Good (append l b) vals
good_line b vals l g h = let z : length b.lines ≡ 0 + length b.lines = omega arith in record {
  lines = lines_last (b.lines ++ l ∷ []) 0 b.lines l (lines_more b.lines (l ∷ []) 0 b.lines (omega arith) g.lines) (subst (λ k. line_checked (b.lines ++ l ∷ []) k l ≡ true) z (line_more b.lines (l ∷ []) (length b.lines) l (omega arith) h));
  regs = λ p. one_line b l (spot p b.regs (Num 0)) (g.regs p);
  names = λ k. one_line b l (vals k) (g.names k);
}

own : (ls : List Line) (l : Line) → has_result (get_or (ls ++ l ∷ []) (length ls) Gone) ≡ has_result l
own [] l = refl
own (x ∷ ls) l = own ls l

made_line : (b : Draft) (vals : ℕ → Val) (l : Line) → Good b vals → line_checked b.lines (length b.lines) l ≡ true → has_result l ≡ true → Made b vals (appended l b)
made_line b vals l g h r = let e = length-append b.lines (l ∷ []) in record {
  good = good_line b vals l g h;
  val = both _ _ (test_of (length b.lines) (length (b.lines ++ l ∷ [])) (omega arith)) (own b.lines l ∙ r);
  keeps = λ v s. one_line b l v s;
}

from : (b c : Draft) (vals : ℕ → Val) (r : Emitted) → ((v : Val) → Stands b v → Stands c v) → Made c vals r → Made b vals r
from b c vals r k m = record { good = m.good; val = m.val; keeps = λ v s. m.keeps v (k v s) }

here : (b : Draft) (vals : ℕ → Val) (v : Val) → Good b vals → Stands b v → Made b vals (record { to = b; val = v })
here b vals v g s = record { good = g; val = s; keeps = λ v s. s }

made : (x : Expr) (b : Draft) (vals : ℕ → Val) → Good b vals → Made b vals (emit vals x b)
made (Cur p) b vals g = here b vals _ g (g.regs p)
made (Got k) b vals g = here b vals _ g (g.names k)
made (Lit n) b vals g = here b vals _ g refl
made (Op o x y) b vals g =
    let bx = emit vals x b in let by = emit vals y bx.to in
    let p = made x b vals g in
    let q = made y bx.to vals p.good in
    from b by.to vals _ (λ v s. q.keeps v (p.keeps v s)) (made_line by.to vals (Bin o bx.val by.val) q.good (both _ _ (q.keeps bx.val p.val) q.val) refl)
made (Fn o x) b vals g =
    let bx = emit vals x b in
    let p = made x b vals g in
    from b bx.to vals _ p.keeps (made_line bx.to vals (One o bx.val) p.good p.val refl)
made (Sel x y z) b vals g =
    let bx = emit vals x b in let by = emit vals y bx.to in let bz = emit vals z by.to in
    let p = made x b vals g in
    let q = made y bx.to vals p.good in
    let r = made z by.to vals q.good in
    from b bz.to vals _ (λ v s. r.keeps v (q.keeps v (p.keeps v s))) (made_line bz.to vals (Select bx.val by.val bz.val) r.good (both _ _ (r.keeps bx.val (q.keeps bx.val p.val)) (both _ _ (r.keeps by.val q.val) r.val)) refl)

-- one of a list, or the value that was set
pub set_one : (P : Val → Type 0) (g : List Val) (k : ℕ) (v : Val) → P v → ((r : ℕ) → P (get_or g r (Num 0))) → (r : ℕ) → P (get_or (set g k v) r (Num 0))
set_one P [] k v p h r = h r
set_one P (x ∷ g) zero v p h zero = p
set_one P (x ∷ g) zero v p h (suc r) = h (suc r)
set_one P (x ∷ g) (suc k) v p h zero = h zero
set_one P (x ∷ g) (suc k) v p h (suc r) = set_one P g k v p (λ j. h (suc j)) r

pub take_one : (P : Val → Type 0) (j : ℕ) (g : List Val) → P (Num 0) → ((r : ℕ) → P (get_or g r (Num 0))) → (r : ℕ) → P (get_or (take j g) r (Num 0))
take_one P zero g p h r = p
take_one P (suc j) [] p h r = p
take_one P (suc j) (x ∷ g) p h zero = h zero
take_one P (suc j) (x ∷ g) p h (suc r) = take_one P j g p (λ k. h (suc k)) r

pub spot_one : (P : Val → Type 0) (p q : Spot) (v : Val) (r : Regs Val) → P v → ((q : Spot) → P (spot q r (Num 0))) → P (spot q (with_spot p v r) (Num 0))
spot_one P (Gpr k) (Gpr j) v r a h = set_one P r.gpr k v a (λ i. h (Gpr i)) j
spot_one P (Gpr k) InCf v r a h = h InCf
spot_one P (Gpr k) InPf v r a h = h InPf
spot_one P (Gpr k) InZf v r a h = h InZf
spot_one P (Gpr k) InSf v r a h = h InSf
spot_one P (Gpr k) InOf v r a h = h InOf
spot_one P (Gpr k) InDf v r a h = h InDf
spot_one P InCf InCf v r a h = a
spot_one P InPf InPf v r a h = a
spot_one P InZf InZf v r a h = a
spot_one P InSf InSf v r a h = a
spot_one P InOf InOf v r a h = a
spot_one P InDf InDf v r a h = a
spot_one P InCf q v r a h = h q
spot_one P InPf q v r a h = h q
spot_one P InZf q v r a h = h q
spot_one P InSf q v r a h = h q
spot_one P InOf q v r a h = h q
spot_one P InDf q v r a h = h q

pub put_one : (P : Val → Type 0) (k : ℕ) (v : Val) (vals : ℕ → Val) → P v → ((j : ℕ) → P (vals j)) → (j : ℕ) → P (put k v vals j)
put_one P k v vals a h j = each (nat_eq j k)
  where
    each : (b : Bool) → P (if b then v else vals j)
    each true = a
    each false = h j

good_step : (x : Step) (r : Rowed) → Good r.draft r.vals → Good (row_step x r).draft (row_step x r).vals
unfolding row_step
good_step (Name k e) r g =
    let m = made e r.draft r.vals g in let b = emit r.vals e r.draft in
    record { lines = m.good.lines; regs = m.good.regs; names = put_one (Stands b.to) k b.val r.vals m.val m.good.names }
good_step (Fetch k w at) r g =
    let m = made at r.draft r.vals g in let b = emit r.vals at r.draft in
    let l = made_line b.to r.vals (Load w b.val) m.good m.val refl in
    record { lines = l.good.lines; regs = l.good.regs; names = put_one (Stands (append (Load w b.val) b.to)) k _ r.vals l.val l.good.names }
good_step (Put p e) r g =
    let m = made e r.draft r.vals g in let b = emit r.vals e r.draft in
    record { lines = m.good.lines; regs = λ q. spot_one (Stands b.to) p q b.val b.to.regs m.val m.good.regs; names = m.good.names }
good_step (Write w at e) r g =
    let bx = emit r.vals at r.draft in let by = emit r.vals e bx.to in
    let p = made at r.draft r.vals g in
    let q = made e bx.to r.vals p.good in
    good_line by.to r.vals (Store w bx.val by.val) q.good (both _ _ (q.keeps bx.val p.val) q.val)

good_steps : (xs : List Step) (r : Rowed) → Good r.draft r.vals → Good (row_steps xs r).draft (row_steps xs r).vals
good_steps [] r g = g
good_steps (x ∷ xs) r g = good_steps xs (row_step x r) (good_step x r g)

-- ---- blocks
one_of : (ls : List Line) (n : ℕ) (vs : List Val) (k : ℕ) → vals_checked ls n vs ≡ true → val_checked ls n (get_or vs k (Num 0)) ≡ true
one_of ls n [] k h = refl
one_of ls n (v ∷ vs) zero h = and_left (val_checked ls n v) _ h
one_of ls n (v ∷ vs) (suc k) h = one_of ls n vs k (and_right (val_checked ls n v) _ h)

all_of : (ls : List Line) (n : ℕ) (g fs : List Val) → ((k : ℕ) → val_checked ls n (get_or g k (Num 0)) ≡ true) → vals_checked ls n fs ≡ true → vals_checked ls n (g ++ fs) ≡ true
all_of ls n [] fs h f = f
all_of ls n (v ∷ g) fs h f = both _ _ (h 0) (all_of ls n g fs (λ k. h (suc k)) f)

good_regs : (b : Block) (p : Spot) → vals_checked b.lines (length b.lines) b.outs ≡ true → Stands (draft_of b) (spot p (regs_of b.outs) (Num 0))
good_regs b (Gpr r) h = take_one (Stands (draft_of b)) 8 b.outs refl (λ k. one_of b.lines (length b.lines) b.outs k h) r
good_regs b InCf h = one_of b.lines (length b.lines) b.outs 8 h
good_regs b InPf h = one_of b.lines (length b.lines) b.outs 9 h
good_regs b InZf h = one_of b.lines (length b.lines) b.outs 10 h
good_regs b InSf h = one_of b.lines (length b.lines) b.outs 11 h
good_regs b InOf h = one_of b.lines (length b.lines) b.outs 12 h
good_regs b InDf h = one_of b.lines (length b.lines) b.outs 13 h

exit_good : (l : Leaving) (vals : ℕ → Val) (ls : List Line) (n : ℕ) → val_checked ls n (vals 9) ≡ true → exit_checked ls n (exit_by l vals) ≡ true
exit_good (Onward to) vals ls n h = refl
exit_good (Either taken next) vals ls n h = h
exit_good Away vals ls n h = h

-- THE LAW: a checked block is checked with the lines of any instruction more
pub lifted_checked : (i : Inst) (at n : ℕ) (b : Block) → checked b ≡ true → checked (lifted i at n b) ≡ true
unfolding lifted
lifted_checked i at n b h =
    let c = and_left (nat_eq (length b.outs) 14) _ h in
    let r = and_right (nat_eq (length b.outs) 14) _ h in
    let s = and_right (lines_checked b.lines 0 b.lines) _ r in
    let o = and_left (vals_checked b.lines (length b.lines) b.outs) _ s in
    let xs = row_of i (wrap (at + n)) in
    let row = row_steps xs (unnamed (draft_of b)) in
    let g = good_steps xs (unnamed (draft_of b)) (record { lines = and_left (lines_checked b.lines 0 b.lines) _ r; regs = λ p. good_regs b p o; names = λ k. refl }) in
    let q = row.draft.regs in
    let fs : List Val = q.cf ∷ q.pf ∷ q.zf ∷ q.sf ∷ q.of ∷ q.df ∷ [] in
    let e : length q.gpr ≡ 8 = steps_count xs (unnamed (draft_of b)) ∙ take_count 8 6 b.outs (eqb-true _ _ c) in
    both _ _ (eq-eqb _ _ (let d = length-append q.gpr fs in omega arith))
    (both _ _ g.lines
    (both _ _ (all_of row.draft.lines (length row.draft.lines) q.gpr fs (λ k. g.regs (Gpr k)) (both _ _ (g.regs InCf) (both _ _ (g.regs InPf) (both _ _ (g.regs InZf) (both _ _ (g.regs InSf) (both _ _ (g.regs InOf) (both _ _ (g.regs InDf) refl)))))))
    (exit_good (leaving_of i (wrap (at + n))) row.vals row.draft.lines (length row.draft.lines) (g.names 9))))
