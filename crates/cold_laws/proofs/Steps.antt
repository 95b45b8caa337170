-- Steps of instructions that stand behind transfers, in cells.
use Rattle.std.proofs.Common.{◌≡◌, ℕ, zero, suc, ◌+◌, ◌-◌, ◌%◌, ◌^◌, ◌<◌, ◌≤◌, List, ◌∷◌, length, drop, get_or, set, Option, Some, None, refl, sym, ap, ◌∙◌, subst, arith}
use Rattle.br_word.specs.declared.types.Width.TheVariants.{B32}
use Rattle.br_word.specs.Memory.{Region, load, store, bytes_of}
use Rattle.br_word.specs.State.{State, Processor}
use Rattle.ia_inst.specs.declared.inst.Addr.{Addr}
use Rattle.ia_inst.specs.declared.inst.Inst.{Inst}
use Rattle.ia_inst.specs.declared.inst.Inst.TheVariants as inst
use Rattle.ia_inst.specs.declared.inst.Rm.TheVariants as rm
use Rattle.ia_inst.specs.declared.inst.Src.TheVariants as src
use Rattle.ia_inst.specs.Canonical.{canonical}
use Rattle.ia_inst.specs.Act.{Past, Ends, Next, or_denied, perform}
use Rattle.ia_inst.specs.Meaning.{wrap, meaning, address_of, no_changes}
use Rattle.ia_inst.specs.Step.{result_of, settled, step}
use Rattle.ia_encode.specs.Items.{Reads}
use Rattle.run_model.specs.Run.{observed, first_choice, run}
use Rattle.par_moves.specs.declared.locations.Place.TheVariants.{Reg, Slot}
use Rattle.par_moves.specs.declared.locations.MoveSource.TheVariants.{Num}
use Rattle.par_moves.specs.Locations.{rm_of, slot_at}
use Rattle.sim_laws.specs.Wider.{AllLow, AllHigh}
use Rattle.code_laws.specs.Seen.{IsCode, Sees, Cells, private_region}
use Rattle.code_laws.proofs.Ops.{Op, OMov, inst as op_inst, act, celled, Fits}
use Rattle.code_laws.proofs.Follows.{follows, reg_wrote}
use Rattle.code_laws.proofs.Runs.{step_is, found_is}
use Rattle.sim_runs.specs.Laws.{Leads}
use Rattle.sim_runs.specs.Relation.{Plan, extra_of}
use Rattle.sim_runs.proofs.Widen.{written_wide}

-- the file's guest at an address, seen as these cells
pub record At (plan : Plan) (a : Cells) (at : ℕ) (u : State) : Type 0 where
  pub sees : Sees plan.code u a
  pub eip : u.eip ≡ at

module _ (plan : Plan) (code : IsCode plan.code) where
  pub step_to : (u : State) (a b : Cells) (at : ℕ) (i : Inst) (n x : ℕ) (cpu : Processor) (rs : List Region) → At plan a at u → Reads plan.code at i n → perform (meaning i n u.cpu.regs u.eip u.cpu.df) x u.cpu u.regions ≡ Next cpu rs (Past n) → ((e : ℕ) → Sees plan.code (record u { eip = e; cpu = cpu; regions = rs }) b) → At plan b (at + n) (step u x)
  step_to u a b at i n x cpu rs h reads goes sees =
      let low = code.below in
      let l = reads.ends in
      let e : wrap (u.eip + n) ≡ at + n = omega (arith, h.eip) in
      let is : step u x ≡ record u { eip = wrap (u.eip + n); cpu = cpu; regions = rs } = step_is u i n x h.sees.running (found_is code u a h.sees i n (subst (λ k. Reads plan.code k i n) (sym h.eip) reads)) ∙ ap (λ d. settled (result_of d u) u) goes in
      record { sees = subst (λ u. Sees plan.code u b) (sym is) (sees (wrap (u.eip + n))); eip = ap (λ (u : State). u.eip) is ∙ e }

  -- one step before a lead
  pub then_leads : (P : State → Type 0) (high : ℕ) (u : State) (a b : Cells) (at to n : ℕ) (i : Inst) (cs : List ℕ) → At plan a at u → Reads plan.code at i n → At plan b to (step u (first_choice cs)) → b.seen ≡ a.seen → Leads P high (step u (first_choice cs)) (drop 1 cs) → Leads P (suc high) u cs
  then_leads P high u a b at to n i cs h reads k same l =
      let low = code.below in
      let r = reads.starts in
      let b = l.bound in
      let e : observed (step u (first_choice cs)) ≡ observed u = k.sees.seen ∙ same ∙ sym h.sees.seen in
      record { steps = suc l.steps; going = omega arith; bound = omega arith; shows = shows e l; inside = inside (omega (arith, h.eip)) l; there = l.there }
    where
      shows : observed (step u (first_choice cs)) ≡ observed u → (l : Leads P high (step u (first_choice cs)) (drop 1 cs)) → (j : ℕ) → j ≤ suc l.steps → observed (run j u cs) ≡ observed u
      shows e l zero b = refl
      shows e l (suc j) b = l.shows j (omega arith) ∙ e

      inside : u.eip < 0x07000000 → (l : Leads P high (step u (first_choice cs)) (drop 1 cs)) → (j : ℕ) → j < suc l.steps → (run j u cs).eip < 0x07000000
      inside e l zero b = e
      inside e l (suc j) b = l.inside j (omega arith)

  -- ---- the single instructions

  pub op_step : (o : Op) (u : State) (a : Cells) (at x : ℕ) → At plan a at u → Fits o → Reads plan.code at (op_inst o) (length (canonical (op_inst o))) → At plan (act o a x) (at + length (canonical (op_inst o))) (step u x)
  op_step o u a at x h fit reads =
      let w = follows code o u a (length (canonical (op_inst o))) x h.sees fit in
      step_to u a (act o a x) at (op_inst o) (length (canonical (op_inst o))) x w.cpu w.regions h reads w.goes w.sees

  -- eax from memory
  pub load_step : (u : State) (a : Cells) (at x n v : ℕ) (m : Addr) → At plan a at u → Reads plan.code at (inst.Mov B32 (rm.Reg 0) (src.Rm (rm.Mem m))) n → load (address_of m u.cpu.regs) 4 u.regions ≡ Some v → v < 2 ^ 32 → At plan (celled a (Reg 0) v) (at + n) (step u x)
  unfolding meaning
  load_step u a at x n v m h reads e small =
      let w = reg_wrote code u a h.sees n x 0 v no_changes (omega arith) small in
      step_to u a (celled a (Reg 0) v) at (inst.Mov B32 (rm.Reg 0) (src.Rm (rm.Mem m))) n x w.cpu w.regions h reads
      (ap (λ o. or_denied (address_of m u.cpu.regs) o (λ v. perform (Ends (set u.cpu.regs 0 v) u.cpu.df no_changes (Past n)) x u.cpu u.regions)) e ∙ w.goes) w.sees

  outer_seen : (u : State) (a : Cells) (rs : List Region) → (h : Sees plan.code u a) → Sees plan.code (record u { regions = plan.code ∷ private_region h.own ∷ rs }) (record a { outer = rs })
  outer_seen u a rs h = record { own = h.own; regions = refl; slots = h.slots; regs = h.regs; small = h.small; flags = h.flags; marks = h.marks; df = h.df; seen = h.seen; brk_start = h.brk_start; brk = h.brk; running = h.running }

  pub extra_low : (own : List ℕ) → length own ≡ 65536 → AllLow 0x08000000 (extra_of plan own)
  extra_low own e = let l = code.below in (omega arith, (omega (arith, e), tt))

  abbrev pub top_of : Cells → ℕ
  top_of a = wrap (a.cell (Reg 4) + 2 ^ 32 - 4)

  -- a number on the stack
  pub push_step : (u : State) (a : Cells) (at x n v : ℕ) (rs : List Region) → At plan a at u → AllHigh 0x08000000 a.outer → Reads plan.code at (inst.Push (src.Imm v)) n → store (top_of a) 4 v a.outer ≡ Some rs → At plan (celled (record a { outer = rs }) (Reg 4) (top_of a)) (at + n) (step u x)
  unfolding meaning
  push_step u a at x n v rs h high reads e =
      let s = h.sees in
      let u' = record u { regions = plan.code ∷ private_region s.own ∷ rs } in
      let w = reg_wrote code u' (record a { outer = rs }) (outer_seen u a rs s) n x 4 (top_of a) no_changes (omega arith) (omega arith) in
      let wide : store (top_of a) 4 v u.regions ≡ Some (plan.code ∷ private_region s.own ∷ rs) = ap (store (top_of a) 4 v) s.regions ∙ (written_wide 0x08000000 (top_of a) (bytes_of 4 v) (extra_of plan s.own) a.outer rs (extra_low s.own s.slots.size) high e).0 in
      let top : wrap (get_or u.cpu.regs 4 0 + 2 ^ 32 - 4) ≡ top_of a = ap (λ g. wrap (g + 2 ^ 32 - 4)) (s.regs.each 4 (omega arith)) in
      step_to u a (celled (record a { outer = rs }) (Reg 4) (top_of a)) at (inst.Push (src.Imm v)) n x w.cpu w.regions h reads
      (ap (λ t. or_denied t (store t 4 v u.regions) (λ rs. perform (Ends (set u.cpu.regs 4 t) u.cpu.df no_changes (Past n)) x u.cpu rs)) top
      ∙ ap (λ o. or_denied (top_of a) o (λ rs. perform (Ends (set u.cpu.regs 4 (top_of a)) u.cpu.df no_changes (Past n)) x u.cpu rs)) wide ∙ w.goes) w.sees

  -- esp moved by a number
  pub lea_step : (u : State) (a : Cells) (at x n d : ℕ) → At plan a at u → Reads plan.code at (inst.Lea B32 4 (record { base = Some 4; index = None; disp = d })) n → At plan (celled a (Reg 4) (wrap (a.cell (Reg 4) + d))) (at + n) (step u x)
  unfolding meaning
  lea_step u a at x n d h reads =
      let w = reg_wrote code u a h.sees n x 4 (wrap (a.cell (Reg 4) + d)) no_changes (omega arith) (omega arith) in
      let each = h.sees.regs.each 4 (omega arith) in
      let e : wrap (get_or u.cpu.regs 4 0 + 0 + d) % 2 ^ 32 ≡ wrap (a.cell (Reg 4) + d) = ap (λ g. wrap (g + 0 + d) % 2 ^ 32) each ∙ twice (a.cell (Reg 4)) d in
      step_to u a (celled a (Reg 4) (wrap (a.cell (Reg 4) + d))) at (inst.Lea B32 4 (record { base = Some 4; index = None; disp = d })) n x w.cpu w.regions h reads
      (ap (λ v. perform (Ends (set u.cpu.regs 4 v) u.cpu.df no_changes (Past n)) x u.cpu u.regions) e ∙ w.goes) w.sees
    where
      twice : (g d : ℕ) → wrap (g + 0 + d) % 2 ^ 32 ≡ wrap (g + d)
      twice g d = omega arith

  stored : (at : ℕ) (o : Option (List Region)) (p q : Processor) (rs : List Region) (n : ℕ) → or_denied at o (λ rs. Next p rs (Past n)) ≡ Next q rs (Past n) → (o ≡ Some rs) × (p ≡ q)
  stored at None p q rs n e = cc
  stored at (Some ss) p q rs n e = (ap Some (let f : ss ≡ rs = cc in f), let g : p ≡ q = cc in g)

  -- the word on top to a slot
  pub pop_step : (u : State) (a : Cells) (at x n k v : ℕ) → At plan a at u → k < 16384 → v < 2 ^ 32 → Reads plan.code at (inst.Pop (rm_of (Slot k))) n → load (get_or u.cpu.regs 4 0) 4 u.regions ≡ Some v → At plan (celled (celled a (Slot k) v) (Reg 4) (wrap (a.cell (Reg 4) + 4))) (at + n) (step u x)
  unfolding meaning
  pop_step u a at x n k v h fit small reads e =
      let s = h.sees in
      let w = follows code (OMov (Slot k) (Num v)) u a n x s (fit, small) in
      let to = address_of (record { base = None; index = None; disp = slot_at k }) u.cpu.regs in
      let r = stored to (store to 4 v u.regions) u.cpu w.cpu w.regions n w.goes in
      let u' = record u { regions = w.regions } in
      let h' : Sees plan.code u' (celled a (Slot k) v) = subst (λ c. Sees plan.code (record u { cpu = c; regions = w.regions }) (celled a (Slot k) v)) (sym r.1) (w.sees u.eip) in
      let top = wrap (a.cell (Reg 4) + 4) in
      let w2 = reg_wrote code u' (celled a (Slot k) v) h' n x 4 top no_changes (omega arith) (omega arith) in
      let esp : wrap (get_or u.cpu.regs 4 0 + 4) ≡ top = ap (λ g. wrap (g + 4)) (s.regs.each 4 (omega arith)) in
      step_to u a (celled (celled a (Slot k) v) (Reg 4) top) at (inst.Pop (rm_of (Slot k))) n x w2.cpu w2.regions h reads
      (ap (λ o. or_denied (get_or u.cpu.regs 4 0) o (λ v. or_denied to (store to 4 v u.regions) (λ rs. perform (Ends (set u.cpu.regs 4 (wrap (get_or u.cpu.regs 4 0 + 4))) u.cpu.df no_changes (Past n)) x u.cpu rs))) e
      ∙ ap (λ o. or_denied to o (λ rs. perform (Ends (set u.cpu.regs 4 (wrap (get_or u.cpu.regs 4 0 + 4))) u.cpu.df no_changes (Past n)) x u.cpu rs)) r.0
      ∙ ap (λ t. perform (Ends (set u.cpu.regs 4 t) u.cpu.df no_changes (Past n)) x u.cpu w.regions) esp ∙ w2.goes) w2.sees
