-- The dispatcher's comparisons.
use Rattle.std.proofs.Common.{◌≡◌, ℕ, suc, ◌+◌, ◌^◌, ◌<◌, Bool, true, false, List, length, drop, nat_lt, nat_eq, if◌then◌else◌, refl, sym, ap, ◌∙◌, subst, arith}
use Rattle.br_word.specs.State.{State}
use Rattle.ia_inst.specs.declared.inst.Inst.TheVariants as inst
use Rattle.ia_inst.specs.Canonical.{canonical}
use Rattle.ia_inst.specs.Act.{Past, To}
use Rattle.ia_inst.specs.Meaning.{wrap}
use Rattle.ia_inst.specs.Step.{There, found, step, next_eip}
use Rattle.ia_encode.specs.Items.{Reads, distance}
use Rattle.run_model.specs.Run.{first_choice}
use Rattle.par_moves.specs.declared.locations.Place.TheVariants.{Reg}
use Rattle.par_moves.specs.declared.locations.MoveSource.TheVariants.{Num}
use Rattle.code_laws.specs.Seen.{IsCode, Sees, Cells}
use Rattle.code_laws.proofs.Ops.{OCmp, act, inst as op_inst}
use Rattle.code_laws.proofs.Runs.{found_is, at_seen, lands}
use Rattle.sim_runs.specs.Relation.{Plan}
use Rattle.sim_runs.specs.Laws.{Leads}
use Rattle.cold_laws.proofs.Steps.{At, then_leads, op_step}
use Rattle.code_laws.proofs.Gives.{eq_test}
use Rattle.cold_laws.proofs.Parts.{jump_is}
use Rattle.cold_laws.proofs.Branch.{value, branch}

-- CF of a comparison says that the first is less
pub compare_below : (a : Cells) (x c : ℕ) → (act (OCmp (Num x)) a c).flags.cf ≡ nat_lt (a.cell (Reg 0)) x
compare_below a x c = ap (nat_lt (a.cell (Reg 0))) (none x)
  where
    none : (x : ℕ) → x + 0 ≡ x
    none x = omega arith

-- ZF of one says that both are the same
pub compare_same : (a : Cells) (x c : ℕ) → a.cell (Reg 0) < 2 ^ 32 → x < 2 ^ 32 → (act (OCmp (Num x)) a c).flags.zf ≡ nat_eq (a.cell (Reg 0)) x
compare_same a x c small fit = eq_test (a.cell (Reg 0)) x small fit

module _ (plan : Plan) (code : IsCode plan.code) where
  -- a jump, in cells
  pub jmp_step : (u : State) (a : Cells) (at to x : ℕ) → At plan a at u → Reads plan.code at (inst.Jmp (distance (at + 5) to)) 5 → to < 2 ^ 32 → At plan a to (step u x)
  jmp_step u a at to x h reads small =
      let b = code.below in
      let l = reads.ends in
      let there : found u.eip u.regions ≡ There (inst.Jmp (distance (at + 5) to)) 5 = found_is code u a h.sees (inst.Jmp (distance (at + 5) to)) 5 (subst (λ p. Reads plan.code p (inst.Jmp (distance (at + 5) to)) 5) (sym h.eip) reads) in
      let is = jump_is plan code u at to x h.sees.running h.eip there (omega arith) small in
      record { sees = subst (λ u. Sees plan.code u a) (sym is) (at_seen u a to h.sees); eip = ap (λ (u : State). u.eip) is }

  -- a conditional jump, in cells
  pub jcc_step : (u : State) (a : Cells) (at to k x : ℕ) (v : Bool) → At plan a at u → Reads plan.code at (inst.Jcc k (distance (at + 6) to)) 6 → to < 2 ^ 32 → value k a.flags ≡ v → At plan a (if v then to else at + 6) (step u x)
  jcc_step u a at to k x v h reads small e = by v refl
    where
      d : ℕ
      d = distance (at + 6) to

      there : found u.eip u.regions ≡ There (inst.Jcc k (distance (at + 6) to)) 6
      there = found_is code u a h.sees (inst.Jcc k (distance (at + 6) to)) 6 (subst (λ p. Reads plan.code p (inst.Jcc k (distance (at + 6) to)) 6) (sym h.eip) reads)

      is : step u x ≡ record u { eip = next_eip (if v then To (wrap (u.eip + 6 + distance (at + 6) to)) else Past 6) u.eip }
      is = branch u k (distance (at + 6) to) 6 x h.sees.running there ∙ ap (λ w. record u { eip = next_eip (if w then To (wrap (u.eip + 6 + distance (at + 6) to)) else Past 6) u.eip }) (ap (value k) h.sees.flags ∙ e)

      at_place : (p : ℕ) → step u x ≡ record u { eip = p } → At plan a p (step u x)
      at_place p e = record { sees = subst (λ u. Sees plan.code u a) (sym e) (at_seen u a p h.sees); eip = ap (λ (u : State). u.eip) e }

      by : (w : Bool) → v ≡ w → At plan a (if v then to else at + 6) (step u x)
      by true q =
          let b = code.below in
          let l = reads.ends in
          let f : wrap (u.eip + 6 + distance (at + 6) to) ≡ to = ap (λ e. wrap (e + 6 + distance (at + 6) to)) h.eip ∙ lands (at + 6) to (omega arith) small in
          let s : step u x ≡ record u { eip = to } = is ∙ ap (λ w. record u { eip = next_eip (if w then To (wrap (u.eip + 6 + distance (at + 6) to)) else Past 6) u.eip }) q ∙ ap (λ p. record u { eip = p }) f in
          subst (λ w. At plan a (if w then to else at + 6) (step u x)) (sym q) (at_place to s)
      by false q =
          let b = code.below in
          let l = reads.ends in
          let f : wrap (u.eip + 6) ≡ at + 6 = omega (arith, h.eip) in
          let s : step u x ≡ record u { eip = at + 6 } = is ∙ ap (λ w. record u { eip = next_eip (if w then To (wrap (u.eip + 6 + distance (at + 6) to)) else Past 6) u.eip }) q ∙ ap (λ p. record u { eip = p }) f in
          subst (λ w. At plan a (if w then to else at + 6) (step u x)) (sym q) (at_place (at + 6) s)

  -- a comparison of eax and a jump where it is below: two steps, and but for flags the cells are as before
  pub below_leads : (P : State → Type 0) (high : ℕ) (u : State) (a : Cells) (at to x : ℕ) (cs : List ℕ) → x < 2 ^ 32 → At plan a at u → Reads plan.code at (op_inst (OCmp (Num x))) (length (canonical (op_inst (OCmp (Num x))))) → Reads plan.code (at + length (canonical (op_inst (OCmp (Num x))))) (inst.Jcc 2 (distance (at + length (canonical (op_inst (OCmp (Num x)))) + 6) to)) 6 → to < 2 ^ 32
      → ((w : State) (ds : List ℕ) → At plan (act (OCmp (Num x)) a (first_choice cs)) (if nat_lt (a.cell (Reg 0)) x then to else at + length (canonical (op_inst (OCmp (Num x)))) + 6) w → Leads P high w ds) → Leads P (suc (suc high)) u cs
  below_leads P high u a at to x cs fit h r1 r2 small next =
      let n = length (canonical (op_inst (OCmp (Num x)))) in
      let b = act (OCmp (Num x)) a (first_choice cs) in
      let u1 = step u (first_choice cs) in
      let h1 : At plan b (at + n) u1 = op_step plan code (OCmp (Num x)) u a at (first_choice cs) h fit r1 in
      let h2 : At plan b (if nat_lt (a.cell (Reg 0)) x then to else at + n + 6) (step u1 (first_choice (drop 1 cs))) = jcc_step u1 b (at + n) to 2 (first_choice (drop 1 cs)) (nat_lt (a.cell (Reg 0)) x) h1 r2 small (compare_below a x (first_choice cs)) in
      then_leads plan code P (suc high) u a b at (at + n) n (op_inst (OCmp (Num x))) cs h r1 h1 refl
      (then_leads plan code P high u1 b b (at + n) (if nat_lt (a.cell (Reg 0)) x then to else at + n + 6) 6 (inst.Jcc 2 (distance (at + n + 6) to)) (drop 1 cs) h1 r2 h2 refl
      (next (step u1 (first_choice (drop 1 cs))) (drop 1 (drop 1 cs)) h2))
