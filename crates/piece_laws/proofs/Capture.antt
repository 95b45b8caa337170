-- Opening, closing and capture.
use Rattle.std.proofs.Common.{◌≡◌, ℕ, ◌+◌, ◌*◌, ◌^◌, ◌<◌, ◌≤◌, Bool, true, false, List, [], ◌∷◌, length, get_or, None, refl, sym, ap, ◌∙◌, subst, arith}
use Rattle.std.proofs.lemmas.Bool.{ne_eqb}
use Rattle.br_word.specs.Memory.{Region}
use Rattle.br_word.specs.Words.{bit}
use Rattle.br_word.specs.State.{State, Flag, CF, PF, ZF, SF, OF, flag_of}
use Rattle.run_model.specs.Run.{observed}
use Rattle.par_moves.specs.declared.locations.Place.{Place}
use Rattle.par_moves.specs.declared.locations.Place.TheVariants.{Reg, Slot}
use Rattle.par_moves.specs.Locations.{InRange}
use Rattle.par_moves.specs.Homes.{AreHomes, home_in}
use Rattle.ssa_form.specs.Agree.{AreBits, number}
use Rattle.ia_encode.specs.declared.item.Dest.{Dest}
use Rattle.ia_encode.specs.declared.item.Item.TheVariants.{Jump}
use Rattle.ia_encode.specs.Items.{jump_inst, distance, size_of_items, Reads, Stands}
use Rattle.fall_stubs.specs.Exchange.{capture_items, island_items, closing_items}
use Rattle.code_laws.specs.Seen.{Cells, Sees, private_region, word}
use Rattle.code_laws.specs.Exchange.{Homes, FlagsHeld, Opened}
use Rattle.code_laws.specs.Exchange as exchange
use Rattle.code_laws.specs.Laws.{Comes, own_start, ExchangeKeeps, JumpsLead}
use Rattle.code_laws.proofs.Runs.{at_seen}
use Rattle.code_laws.proofs.Memory.{word_at}
use Rattle.sim_runs.specs.Relation.{Plan, at_home}
use Rattle.sim_runs.specs.Laws.{Leads, Opens, Captured}
use Rattle.sim_runs.specs.Image.{Capturable}
use Rattle.sim_runs.proofs.Pass.{gets_then, gets_map, gets_leads, cut}
use Rattle.piece_laws.specs.Exchange.{HomesMeet}
use Rattle.piece_laws.proofs.Steps.{gets_of}

-- flags live in their slots
high_home : (homes : Homes) → AreHomes homes → (v : ℕ) → 8 ≤ v → home_in homes v ≡ Slot v
high_home [] h v l = refl
high_home (p ∷ ps) h v l = let s = h.1 in rw (ne_eqb p.slot v (λ e. omega (arith, e, s, l))) (high_home ps h.4 v l)

bit_small : (b : Bool) → bit b < 2
bit_small true = omega arith
bit_small false = omega arith

module _ (homes : Homes) (plan : Plan) (dest : Dest → ℕ) (meet : HomesMeet homes plan)
    (keeps : (s : State) (a : Cells) (cs : List ℕ) → Sees plan.code s a → FlagsHeld a → ExchangeKeeps plan.code homes dest s a cs) where
  flag_home : (v : ℕ) → 8 ≤ v → v < 14 → plan.home v ≡ Slot v
  flag_home v l m = meet.home v m ∙ high_home homes meet.are v l

  opened : (x : ℕ) (a : Cells) (u : State) → AreBits (at_home plan a) → Comes plan.code (plan.native x) (Opened homes a) u → Opens plan x a u
  opened x a u bits c = record {
    restored = record {
      own = c.sees.own;
      size = c.sees.slots.size;
      mem = c.sees.regions ∙ ap (λ m. plan.code ∷ private_region c.sees.own ∷ m) c.holds.besides.outer;
      count = c.sees.regs.count;
      regs = λ r l. c.sees.regs.each r l ∙ c.holds.registers r l ∙ sym (ap a.cell (meet.home r (omega arith)));
      flags = flags;
      df = ap bit c.sees.df ∙ c.holds.df ∙ slot 13 (omega arith) (omega arith);
      eip = c.eip;
      shows = c.sees.seen ∙ c.holds.besides.seen;
      brk_start = c.sees.brk_start ∙ c.holds.besides.brk_start;
      brk = c.sees.brk ∙ c.holds.besides.brk;
    };
    ready = record {
      size = c.sees.slots.size;
      bytes = c.sees.slots.bytes;
      df_word = c.sees.slots.words 13 (omega arith) ∙ c.holds.others 13 (omega arith) ∙ sym c.holds.df ∙ sym (ap bit c.sees.df);
      flags = held;
    };
  }
    where
      slot : (v : ℕ) → 8 ≤ v → v < 14 → a.cell (Slot v) ≡ at_home plan a v
      slot v l m = sym (ap a.cell (flag_home v l m))

      flags : (f : Flag) → bit (flag_of f u.cpu.flags) ≡ at_home plan a (number f)
      flags CF = ap (λ g. bit g.cf) c.sees.flags ∙ c.holds.cf ∙ slot 8 (omega arith) (omega arith)
      flags PF = ap (λ g. bit g.pf) c.sees.flags ∙ c.holds.pf ∙ slot 9 (omega arith) (omega arith)
      flags ZF = ap (λ g. bit g.zf) c.sees.flags ∙ c.holds.zf ∙ slot 10 (omega arith) (omega arith)
      flags SF = ap (λ g. bit g.sf) c.sees.flags ∙ c.holds.sf ∙ slot 11 (omega arith) (omega arith)
      flags OF = ap (λ g. bit g.of) c.sees.flags ∙ c.holds.of ∙ slot 12 (omega arith) (omega arith)

      one : (v : ℕ) → 8 ≤ v → v < 14 → at_home plan a v < 2 → word c.sees.own v < 2
      one v l m b = subst (λ n. n < 2) (sym (c.sees.slots.words v (omega (arith, m)) ∙ c.holds.others v l ∙ slot v l m)) b

      held : (f : Flag) → word c.sees.own (number f) < 2
      held CF = one 8 (omega arith) (omega arith) (bits.flags CF)
      held PF = one 9 (omega arith) (omega arith) (bits.flags PF)
      held ZF = one 10 (omega arith) (omega arith) (bits.flags ZF)
      held SF = one 11 (omega arith) (omega arith) (bits.flags SF)
      held OF = one 12 (omega arith) (omega arith) (bits.flags OF)

  flags_held : (a : Cells) → AreBits (at_home plan a) → FlagsHeld a
  flags_held a bits = record {
    cf = subst (λ p. a.cell p < 2) (flag_home 8 (omega arith) (omega arith)) (bits.flags CF);
    pf = subst (λ p. a.cell p < 2) (flag_home 9 (omega arith) (omega arith)) (bits.flags PF);
    zf = subst (λ p. a.cell p < 2) (flag_home 10 (omega arith) (omega arith)) (bits.flags ZF);
    sf = subst (λ p. a.cell p < 2) (flag_home 11 (omega arith) (omega arith)) (bits.flags SF);
    of = subst (λ p. a.cell p < 2) (flag_home 12 (omega arith) (omega arith)) (bits.flags OF);
    df = subst (λ p. a.cell p < 2) (flag_home 13 (omega arith) (omega arith)) bits.df;
  }

  pub opens : (x label to : ℕ) (bytes : List ℕ) (next : Dest) (t : State) (a : Cells) (cs : List ℕ) → Stands dest plan.code (plan.address x) (island_items homes bytes label next) to → own_start homes label (plan.address x) ≡ plan.native x →
      Sees plan.code t a → t.eip ≡ plan.address x → AreBits (at_home plan a) → Leads (Opens plan x a) (length homes + 28) t cs
  opens x label to bytes next t a cs s own h e bits =
      let f = flags_held a bits in
      let d = f.df in
      let P = Comes plan.code (own_start homes label t.eip) (Opened homes a) in
      let z : own_start homes label t.eip ≡ plan.native x = ap (own_start homes label) e ∙ own in
      gets_leads (Opens plan x a) (length homes + 28) t cs (gets_map P (Opens plan x a) 1 1 _ _ t cs (omega arith) (omega arith) (λ u c. opened x a u bits (subst (λ y. Comes plan.code y (Opened homes a) u) z c))
      (gets_of a.seen P 1 (length homes + (27 + a.cell (Slot 13))) (length homes + 28) t cs h.seen (λ u c. c.sees.seen ∙ c.holds.besides.seen) (omega arith) (omega (arith, d))
      ((keeps t a cs h f).opening bytes label to next (subst (λ y. Stands dest plan.code y (island_items homes bytes label next) to) (sym e) s))))

  -- ---- capture
  pub own_cell : State → List ℕ → Place → ℕ
  own_cell t own (Reg r) = get_or t.cpu.regs r 0
  own_cell t own (Slot v) = word own v

  abbrev pub first : State → List ℕ → List Region → Cells
  first t own outer = record { cell = own_cell t own; flags = t.cpu.flags; marks = t.cpu.marks; df = t.cpu.df; outer = outer; seen = observed t; brk_start = t.brk_start; brk = t.brk }

  pub first_seen : (t : State) (outer : List Region) (c : Capturable plan outer t) → Sees plan.code t (first t c.own outer)
  unfolding own_cell
  first_seen t outer c = record {
    own = c.own;
    regions = c.mem;
    slots = record { size = c.ready.size; bytes = c.ready.bytes; words = λ k l. refl };
    regs = record { count = c.count; each = λ r l. refl };
    small = smalls;
    flags = refl;
    marks = refl;
    df = refl;
    seen = refl;
    brk_start = refl;
    brk = refl;
    running = c.goes;
  }
    where
      smalls : (p : Place) → InRange p → own_cell t c.own p < 2 ^ 32
      smalls (Reg r) l = c.small r l
      smalls (Slot k) l =
          let e = word_at c.own (4 * k) (let s = c.ready.size in omega (arith, s, l)) in
          let b0 = c.ready.bytes (4 * k) in
          let b1 = c.ready.bytes (4 * k + 1) in
          let b2 = c.ready.bytes (4 * k + 1 + 1) in
          let b3 = c.ready.bytes (4 * k + 1 + 1 + 1) in
          omega (arith, e, b0, b1, b2, b3)

  first_flags : (t : State) (outer : List Region) (c : Capturable plan outer t) → FlagsHeld (first t c.own outer)
  unfolding own_cell
  first_flags t outer c = record { cf = c.ready.flags CF; pf = c.ready.flags PF; zf = c.ready.flags ZF; sf = c.ready.flags SF; of = c.ready.flags OF; df = subst (λ n. n < 2) (sym c.ready.df_word) (bit_small t.cpu.df) }

  -- where this is caught, and eip is that of the start's fragment
  caught : (y : ℕ) (t u : State) (outer : List Region) (c : Capturable plan outer t) (d : Cells) → Sees plan.code u d → u.eip ≡ plan.address y → exchange.Captured homes (first t c.own outer) d → Captured plan y outer t u
  unfolding own_cell
  caught y t u outer c d sees there h = record {
    cells = d;
    sees = sees;
    there = there;
    outer_is = h.besides.outer;
    regs = λ r l. ap d.cell (meet.home r (omega (arith, l))) ∙ h.homed r l;
    flags = flags;
    df = home 13 (omega arith) (omega arith) ∙ h.others 13 (omega arith) ∙ c.ready.df_word;
    shows = h.besides.seen;
    brk_start = h.besides.brk_start;
    brk = h.besides.brk;
  }
    where
      home : (v : ℕ) → 8 ≤ v → v < 14 → d.cell (plan.home v) ≡ d.cell (Slot v)
      home v l m = ap d.cell (flag_home v l m)

      flags : (f : Flag) → d.cell (plan.home (number f)) ≡ bit (flag_of f t.cpu.flags)
      flags CF = home 8 (omega arith) (omega arith) ∙ h.cf
      flags PF = home 9 (omega arith) (omega arith) ∙ h.pf
      flags ZF = home 10 (omega arith) (omega arith) ∙ h.zf
      flags SF = home 11 (omega arith) (omega arith) ∙ h.sf
      flags OF = home 12 (omega arith) (omega arith) ∙ h.of

  pub closes : (label at to y : ℕ) (bytes : List ℕ) (next : Dest) (t : State) (outer : List Region) (cs : List ℕ) → Stands dest plan.code at (island_items homes bytes label next) to → dest next ≡ plan.address y → plan.address y < 2 ^ 32 →
      Capturable plan outer t → t.eip ≡ own_start homes label at + length bytes → Leads (Captured plan y outer t) (14 + length homes) t cs
  closes label at to y bytes next t outer cs s there low c e =
      let a = first t c.own outer in
      let h = first_seen t outer c in
      let P = Comes plan.code (dest next) (exchange.Captured homes a) in
      gets_leads (Captured plan y outer t) (14 + length homes) t cs (gets_map P (Captured plan y outer t) 1 1 _ _ t cs (omega arith) (omega arith) (λ u q. caught y t u outer c q.cells q.sees (q.eip ∙ there) q.holds)
      (gets_of a.seen P 1 (14 + length homes) (14 + length homes) t cs refl (λ u q. q.sees.seen ∙ q.holds.besides.seen) (omega arith) (omega arith)
      ((keeps t a cs h (first_flags t outer c)).closing bytes label at to next s e (omega (arith, there, low)))))

  pub enters : JumpsLead plan.code dest → (to y : ℕ) (next : Dest) (t : State) (outer : List Region) (cs : List ℕ) → Stands dest plan.code t.eip (closing_items homes next) to → dest next ≡ plan.address y → plan.address y < 2 ^ 32 →
      Capturable plan outer t → Leads (Captured plan y outer t) (14 + length homes) t cs
  enters jumps to y next t outer cs s there low c =
      let a = first t c.own outer in
      let h = first_seen t outer c in
      let mid = t.eip + size_of_items (capture_items homes) in
      let d = cut dest plan.code (capture_items homes) (Jump None next ∷ []) t.eip to s in
      let P = Comes plan.code mid (exchange.Captured homes a) in
      let Q = Captured plan y outer t in
      gets_leads Q (14 + length homes) t cs (gets_map Q Q 1 1 (13 + length homes + 1) _ t cs (omega arith) (omega arith) (λ u q. q)
      (gets_then P Q 0 1 (13 + length homes) 1 t cs
      (gets_of a.seen P 0 (13 + length homes) (13 + length homes) t cs refl (λ u q. q.sees.seen ∙ q.holds.besides.seen) (omega arith) (omega arith) ((keeps t a cs h (first_flags t outer c)).capture mid d.0))
      (λ u ds q. gets_map (λ w. w ≡ record u { eip = dest next }) Q 1 1 1 1 u ds (omega arith) (omega arith)
      (λ w e. subst Q (sym e) (caught y t (record u { eip = dest next }) outer c q.cells (at_seen u q.cells (dest next) q.sees) there q.holds))
      (gets_of q.cells.seen (λ w. w ≡ record u { eip = dest next }) 1 1 1 u ds q.sees.seen (λ w e. ap observed e ∙ q.sees.seen) (omega arith) (omega arith)
      (jumps.always u q.cells next ds q.sees (omega (arith, there, low)) (subst (λ x. Reads plan.code x (jump_inst None (distance (x + 5) (dest next))) 5) (sym q.eip) d.1.0))))))
