-- Templates mean their lines, in runs of the machine.
use Rattle.std.proofs.Common.{◌≡◌, ℕ, suc, ◌+◌, ◌^◌, ◌<◌, true, List, [], ◌∷◌, map, length, drop, Some, None, refl, sym, ap, ◌∙◌, subst, arith}
use Rattle.br_word.specs.declared.types.Width.{Width}
use Rattle.br_word.specs.declared.types.Width.TheVariants.{B8, B16, B32}
use Rattle.br_word.specs.Memory.{Region, load, store}
use Rattle.br_word.specs.Words.{size_of}
use Rattle.br_word.specs.State.{State}
use Rattle.ia_inst.specs.declared.inst.Inst.{Inst}
use Rattle.ia_inst.specs.declared.inst.Inst.TheVariants.{Mov}
use Rattle.ia_inst.specs.declared.inst.Src.TheVariants as src
use Rattle.ia_inst.specs.Canonical.{canonical}
use Rattle.ia_inst.specs.Act.{Next, Past, perform}
use Rattle.ia_inst.specs.Meaning.{meaning, wrap, no_changes, address_of}
use Rattle.ia_inst.specs.Step.{result_of, settled}
use Rattle.run_model.specs.Run.{first_choice}
use Rattle.par_moves.specs.declared.locations.Place.{Place}
use Rattle.par_moves.specs.declared.locations.Place.TheVariants.{Reg, Slot}
use Rattle.par_moves.specs.declared.locations.MoveSource.{MoveSource as Source}
use Rattle.par_moves.specs.declared.locations.MoveSource.TheVariants.{Place as Held, Num}
use Rattle.emit_ops.specs.Templates.{by_eax, ecx, load_reg, keep, bin_code, one_code, select_code, load_inst, load_code, store_code, move_code}
use Rattle.par_moves.specs.Locations.{held, InRange, IsFit}
use Rattle.ssa_form.specs.declared.form.BinOp.{BinOp}
use Rattle.ssa_form.specs.declared.form.BinOp.TheVariants.{Add, Sub, And, Or, Xor, Mul, MulOver, Shl as ShiftLeft, Shr as ShiftRight, Sar as ShiftSigned, Eq, Ult}
use Rattle.ssa_form.specs.declared.form.OneOp.{OneOp}
use Rattle.ssa_form.specs.declared.form.OneOp.TheVariants.{Parity, Sext8, Sext16}
use Rattle.ssa_form.specs.Value.{bin_value, one_value, select_value}
use Rattle.code_laws.proofs.Words.{low_part}
use Rattle.ia_encode.specs.Items.{StandsAt}
use Rattle.code_laws.specs.Seen.{Cells, IsCode, Sees, Leads, Quiet}
use Rattle.code_laws.specs.Laws.{Comes, Gave, Stored, IsOperand, IsResult, Means, TemplateMeans}
use Rattle.code_laws.proofs.Memory.{store_low}
use Rattle.code_laws.proofs.Ops.{Op, OMov, inst, acts, celled, AllFit, overflow, below, equal, parity}
use Rattle.code_laws.proofs.Follows.{Wrote, same_effect, reg_wrote, held_small}
use Rattle.code_laws.proofs.Runs.{leads_as, leads_then, leads_none, Done, runs, step_then}
use Rattle.code_laws.proofs.Gives.{place_eq_refl, held_eax, keep_op, bin_ops, one_ops, select_ops, move_ops, bin_is, one_is, move_is, bin_gives, one_gives, select_gives, move_gives}

length_map : (os : List Op) → length (map inst os) ≡ length os
length_map [] = refl
length_map (o ∷ os) = ap suc (length_map os)

-- ---- operands and results fit

module _ (r : Place) (hr : InRange r) where
  low8 : 0 < 8
  low8 = omega arith

  one8 : 1 < 8
  one8 = omega arith

  zero32 : 0 < 2 ^ 32
  zero32 = omega arith

  pub fits_bin : (op : BinOp) (x y : Source) → IsFit x → IsFit y → AllFit (bin_ops op x y r)
  fits_bin Add x y hx hy = ((low8, hx), ((refl, refl, hy), ((hr, low8), tt)))
  fits_bin Sub x y hx hy = ((low8, hx), ((refl, refl, hy), ((hr, low8), tt)))
  fits_bin And x y hx hy = ((low8, hx), ((refl, refl, hy), ((hr, low8), tt)))
  fits_bin Or x y hx hy = ((low8, hx), ((refl, refl, hy), ((hr, low8), tt)))
  fits_bin Xor x y hx hy = ((low8, hx), ((refl, refl, hy), ((hr, low8), tt)))
  fits_bin Mul x y hx hy = ((low8, hx), ((one8, hy), (tt, ((hr, low8), tt))))
  fits_bin MulOver x y hx hy = ((low8, hx), ((one8, hy), (tt, ((low8, zero32), ((overflow, omega arith), ((hr, low8), tt))))))
  fits_bin ShiftLeft x y hx hy = ((low8, hx), ((one8, hy), (low8, ((hr, low8), tt))))
  fits_bin ShiftRight x y hx hy = ((low8, hx), ((one8, hy), (low8, ((hr, low8), tt))))
  fits_bin ShiftSigned x y hx hy = ((low8, hx), ((one8, hy), (low8, ((hr, low8), tt))))
  fits_bin Eq x y hx hy = ((low8, hx), (hy, ((low8, zero32), ((equal, omega arith), ((hr, low8), tt)))))
  fits_bin Ult x y hx hy = ((low8, hx), (hy, ((low8, zero32), ((below, omega arith), ((hr, low8), tt)))))

  pub fits_one : (op : OneOp) (x : Source) → IsFit x → AllFit (one_ops op x r)
  fits_one Parity x hx = ((low8, hx), (tt, ((low8, zero32), ((parity, omega arith), ((hr, low8), tt)))))
  fits_one Sext8 x hx = ((low8, hx), (tt, ((hr, low8), tt)))
  fits_one Sext16 x hx = ((low8, hx), (tt, ((hr, low8), tt)))

  pub fits_select : (c x y : Source) → IsFit c → IsFit x → IsFit y → AllFit (select_ops c x y r)
  fits_select c x y hc hx hy = ((low8, hc), (tt, ((low8, hy), ((one8, hx), (tt, ((hr, low8), tt))))))

fits_move : (r : Place) (x : Source) → InRange r → IsFit x → AllFit (move_ops r x)
fits_move (Reg r) x hr hx = ((hr, hx), tt)
fits_move (Slot k) (Num n) hr hx = ((hr, hx), tt)
fits_move (Slot k) (Held (Reg r)) hr hx = ((hr, hx), tt)
fits_move (Slot k) (Held (Slot j)) hr hx = ((omega arith, hx), ((hr, omega arith), tt))

module _ {code : Region} (here : IsCode code) where
  -- code of operations, of which Q holds afterwards
  pub ops_lead : (os : List Op) (is : List Inst) (s : State) (a : Cells) (to : ℕ) (cs : List ℕ) (Q : Cells → Type 0) → map inst os ≡ is → Sees code s a → AllFit os → ((ds : List ℕ) → Q (acts os a ds)) → StandsAt code s.eip is to → Leads (Quiet a.seen) (Comes code to Q) (length is) s cs
  ops_lead os is s a to cs Q e h fit gives st =
      subst (λ n. Leads (Quiet a.seen) (Comes code to Q) n s cs) (sym (length_map os) ∙ ap length e)
      (leads_as a.seen a.seen (Done code os s a to) (Comes code to Q) (length os) s cs refl
      (λ t d. record { cells = acts os a d.choices; sees = d.sees; eip = d.eip; holds = gives d.choices })
      (runs here os s a to cs h fit (subst (λ is. StandsAt code s.eip is to) (sym e) st)))

  -- ---- accesses by eax

  by_eax_is : (s : State) (a : Cells) → Sees code s a → address_of (record { base = Some 0; index = None; disp = 0 }) s.cpu.regs ≡ a.cell (Reg 0)
  by_eax_is s a h = let l = h.small (Reg 0) (omega arith) in let e = h.regs.each 0 (omega arith) in omega arith

  load_wrote : (w : Width) (s : State) (a : Cells) (n x v : ℕ) → Sees code s a → load (a.cell (Reg 0)) (size_of w) s.regions ≡ Some v → v < 2 ^ 32 → Wrote code s n (perform (meaning (load_inst w) n s.cpu.regs s.eip s.cpu.df) x s.cpu s.regions) (celled a (Reg 0) v) true
  unfolding meaning
  load_wrote B8 s a n x v h e l = same_effect (rw (by_eax_is s a h, e)) (reg_wrote here s a h n x 0 v no_changes (omega arith) l)
  load_wrote B16 s a n x v h e l = same_effect (rw (by_eax_is s a h, e)) (reg_wrote here s a h n x 0 v no_changes (omega arith) l)
  load_wrote B32 s a n x v h e l = same_effect (rw (by_eax_is s a h, e)) (reg_wrote here s a h n x 0 v no_changes (omega arith) l)

  -- only the memory is another
  store_goes : (w : Width) (s : State) (a : Cells) (n x : ℕ) (m : List Region) → Sees code s a → store (a.cell (Reg 0)) (size_of w) (a.cell (Reg 1)) s.regions ≡ Some m → perform (meaning (Mov w by_eax (src.Rm ecx)) n s.cpu.regs s.eip s.cpu.df) x s.cpu s.regions ≡ Next s.cpu m (Past n)
  unfolding meaning
  store_goes B8 s a n x m h e =
      let f : store (a.cell (Reg 0)) (size_of B8) (low_part B8 (a.cell (Reg 1))) s.regions ≡ Some m = store_low B8 (a.cell (Reg 0)) (a.cell (Reg 1)) s.regions ∙ e in
      rw (by_eax_is s a h, h.regs.each 1 (omega arith), f)
  store_goes B16 s a n x m h e =
      let f : store (a.cell (Reg 0)) (size_of B16) (low_part B16 (a.cell (Reg 1))) s.regions ≡ Some m = store_low B16 (a.cell (Reg 0)) (a.cell (Reg 1)) s.regions ∙ e in
      rw (by_eax_is s a h, h.regs.each 1 (omega arith), f)
  store_goes B32 s a n x m h e =
      let f : store (a.cell (Reg 0)) (size_of B32) (low_part B32 (a.cell (Reg 1))) s.regions ≡ Some m = store_low B32 (a.cell (Reg 0)) (a.cell (Reg 1)) s.regions ∙ e in
      rw (by_eax_is s a h, h.regs.each 1 (omega arith), f)

  pub load_leads : (s : State) (a : Cells) (to : ℕ) (cs : List ℕ) → Sees code s a → (w : Width) (x : Source) (r : Place) (v : ℕ) → IsOperand x → IsResult r → load (held a.cell x) (size_of w) s.regions ≡ Some v → v < 2 ^ 32 → Means code s a (load_code w x r) to cs r v
  load_leads s a to cs h w x r v hx hr e l st =
      let d = celled a (Reg 0) (held a.cell x) in
      let mid = s.eip + length (canonical (load_reg 0 x)) in
      leads_then (Quiet a.seen) (Done code (OMov (Reg 0) x ∷ []) s a mid) (Comes code to (Gave a r v)) 1 2 s cs
      (runs here (OMov (Reg 0) x ∷ []) s a mid cs h ((omega arith, hx.1), tt) (st.0, refl))
      (λ t ds q.
      let n = length (canonical (load_inst w)) in
      let st1 = subst (λ p. StandsAt code p (load_inst w ∷ keep r ∷ []) to) (sym q.eip) st.1 in
      let e1 = subst (λ m. load (held a.cell x) (size_of w) m ≡ Some v) (sym (q.same refl)) e in
      let o = load_wrote w t d n (first_choice ds) v q.sees e1 l in
      let b = here.below in
      let u = st1.0.ends in
      let f : wrap (t.eip + n) ≡ t.eip + n = omega arith in
      let t1 = record t { eip = t.eip + n; cpu = o.cpu; regions = o.regions } in
      step_then here t d (load_inst w) n 1 ds (Comes code to (Gave a r v)) t1 q.sees st1.0
      (ap (λ z. settled (result_of z t) t) o.goes ∙ ap (λ p. record t { eip = p; cpu = o.cpu; regions = o.regions }) f)
      (ops_lead (keep_op r ∷ []) (keep r ∷ []) t1 (celled d (Reg 0) v) to (drop 1 ds) (Gave a r v) refl (o.sees (t.eip + n)) ((hr.1, omega arith), tt)
      (λ es. record { value = simp place_eq_refl; others = λ p hp n. simp (n, hp.not_eax); df = refl; besides = record { outer = refl; seen = refl; brk_start = refl; brk = refl } })
      st1.1))

  pub store_leads : (s : State) (a : Cells) (to : ℕ) (cs : List ℕ) → Sees code s a → (w : Width) (x y : Source) (m : List Region) → IsOperand x → IsOperand y → store (held a.cell x) (size_of w) (held a.cell y) s.regions ≡ Some m → StandsAt code s.eip (store_code w x y) to → Leads (Quiet a.seen) (Stored a m to) 3 s cs
  store_leads s a to cs h w x y m hx hy e st =
      let os = OMov (Reg 0) x ∷ OMov (Reg 1) y ∷ [] in
      let d1 = celled a (Reg 0) (held a.cell x) in
      let d = celled d1 (Reg 1) (held d1.cell y) in
      let mid = s.eip + length (canonical (load_reg 0 x)) + length (canonical (load_reg 1 y)) in
      leads_then (Quiet a.seen) (Done code os s a mid) (Stored a m to) 2 1 s cs
      (runs here os s a mid cs h ((omega arith, hx.1), ((omega arith, hy.1), tt)) (st.0, (st.1.0, refl)))
      (λ t ds q.
      let i = Mov w by_eax (src.Rm ecx) in
      let n = length (canonical i) in
      let st1 = subst (λ p. StandsAt code p (i ∷ []) to) (sym q.eip) st.1.1 in
      let e1 = subst (λ v. store (held a.cell x) (size_of w) v s.regions ≡ Some m) (sym (held_eax y (held a.cell x) a.cell hy.0)) e in
      let e2 = subst (λ rs. store (held a.cell x) (size_of w) (held d1.cell y) rs ≡ Some m) (sym (q.same refl)) e1 in
      let b = here.below in
      let u = st1.0.ends in
      let f : wrap (t.eip + n) ≡ t.eip + n = omega arith in
      let t1 = record t { eip = t.eip + n; regions = m } in
      let g = q.sees in
      step_then here t d i n 0 ds (Stored a m to) t1 g st1.0
      (ap (λ z. settled (result_of z t) t) (store_goes w t d n (first_choice ds) m g e2) ∙ ap (λ p. record t { eip = p; regions = m }) f)
      (leads_none (Quiet d.seen) (Stored a m to) t1 (drop 1 ds) (record {
        eip = st1.1;
        regions = refl;
        count = g.regs.count;
        small = λ r l. rw (g.regs.each r l) (g.small (Reg r) l);
        regs = λ r l k. g.regs.each r l ∙ simp (k.not_eax, k.not_ecx);
        flags = g.flags;
        marks = g.marks;
        df = g.df;
        seen = g.seen;
        brk_start = g.brk_start;
        brk = g.brk;
        running = g.running;
      })))

  pub template_means : (s : State) (a : Cells) (to : ℕ) (cs : List ℕ) → Sees code s a → TemplateMeans code s a to cs
  template_means s a to cs h = record {
    bin = λ op x y r hx hy hr st. ops_lead (bin_ops op x y r) (bin_code op x y r) s a to cs (Gave a r (bin_value op (held a.cell x) (held a.cell y))) (bin_is op x y r) h (fits_bin r hr.1 op x y hx.1 hy.1) (λ ds. bin_gives a ds r hr.0 op x y hx.0 hy.0 (held_small here s a h 0 0 x hx.1) (held_small here s a h 0 0 y hy.1)) st;
    one = λ op x r hx hr st. ops_lead (one_ops op x r) (one_code op x r) s a to cs (Gave a r (one_value op (held a.cell x))) (one_is op x r) h (fits_one r hr.1 op x hx.1) (λ ds. one_gives a ds r hr.0 op x hx.0) st;
    select = λ c x y r hc hx hy hr st. ops_lead (select_ops c x y r) (select_code c x y r) s a to cs (Gave a r (select_value (held a.cell c) (held a.cell x) (held a.cell y))) refl h (fits_select r hr.1 c x y hc.1 hx.1 hy.1) (λ ds. select_gives a ds r hr.0 c x y hc.0 hx.0 hy.0) st;
    load = load_leads s a to cs h;
    store = store_leads s a to cs h;
    move = λ r x hr hx st. ops_lead (move_ops r x) (move_code r x) s a to cs (Gave a r (held a.cell x)) (move_is r x) h (fits_move r x hr hx) (λ ds. move_gives a ds r x) st;
  }
