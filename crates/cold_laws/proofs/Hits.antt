-- What the dispatcher comes to: the block of a start, a copy, or the original.
use Rattle.std.proofs.Common.{◌≡◌, ℕ, zero, suc, ◌+◌, ◌^◌, ◌<◌, ◌≤◌, Bool, true, false, ◌||◌, List, [], ◌∷◌, ◌++◌, length, get_or, nat_eq, None, if◌then◌else◌, refl, sym, ap, ◌∙◌, subst, arith, ⊎_elim, inl}
use Rattle.std.proofs.lemmas.Bool.{cases_lt, ne_eqb}
use Rattle.br_word.specs.declared.types.Flags.{Flags}
use Rattle.br_word.specs.Words.{bit}
use Rattle.br_word.specs.State.{State, Running, Flag, CF, PF, ZF, SF, OF, flag_of}
use Rattle.elf_read.specs.declared.exe.Exe.{Exe}
use Rattle.ia_inst.specs.declared.inst.Inst.{Inst}
use Rattle.ia_inst.specs.declared.inst.Inst.TheVariants as inst
use Rattle.ia_inst.specs.Canonical.{canonical}
use Rattle.ia_encode.specs.declared.item.Dest.{Dest}
use Rattle.ia_encode.specs.declared.item.Dest.TheVariants as dests
use Rattle.ia_encode.specs.declared.item.Item.TheVariants as item
use Rattle.ia_encode.specs.Items.{Stands, Reads, distance, size_of_items}
use Rattle.run_model.specs.Run.{Observation, observed, run}
use Rattle.par_moves.specs.declared.locations.Place.TheVariants.{Reg, Slot}
use Rattle.par_moves.specs.declared.locations.MoveSource.TheVariants.{Num}
use Rattle.par_moves.specs.Locations.{rm_of, same_place}
use Rattle.par_moves.specs.Homes.{register_homes, home_in}
use Rattle.ssa_form.specs.Agree.{number}
use Rattle.fall_stubs.specs.Exchange.{restore_items}
use Rattle.sim_laws.specs.Wider.{Agree}
use Rattle.code_laws.specs.Seen.{IsCode, Sees, Cells, Quiet}
use Rattle.code_laws.specs.Seen as runs
use Rattle.code_laws.specs.Exchange.{FlagsHeld, Captured, Restored}
use Rattle.code_laws.specs.Laws.{Comes, ExchangeKeeps, JumpsLead}
use Rattle.code_laws.proofs.Ops.{OCmp, act, celled, put}
use Rattle.code_laws.proofs.Keeps.{stands_parts}
use Rattle.code_laws.proofs.Runs.{leads_run, leads_map, at_seen}
use Rattle.piece_laws.specs.Exchange.{HomesMeet}
use Rattle.sim_runs.specs.Passes.{Gets}
use Rattle.sim_runs.specs.Relation.{Plan, AtBlock, InPlace, at_home}
use Rattle.sim_runs.specs.Laws.{Leads}
use Rattle.sim_runs.specs.Promised.{IsOf}
use Rattle.sim_runs.proofs.Pass.{gets_then, gets_map, gets_leads}
use Rattle.sim_runs.proofs.Same.{bit_small, bit_same}
use Rattle.sim_runs.proofs.Widen.{agree_at}
use Rattle.cold_laws.specs.Copies.{Copies}
use Rattle.cold_laws.specs.InPlace.{Landed, in_block, in_copy, in_original}
use Rattle.cold_laws.specs.Ends.{goes_cold, AreLow}
use Rattle.cold_laws.specs.Dispatcher.{hit, hits}
use Rattle.cold_laws.proofs.Seen as seen
use Rattle.cold_laws.proofs.Steps.{At}
use Rattle.cold_laws.proofs.Leaving.{wider}
use Rattle.cold_laws.proofs.Parts.{leads_map as lead_map, jump_leads, in_place}

-- ---- leads one behind another

gets : (P : State → Type 0) (n : ℕ) (t : State) (cs : List ℕ) → Leads P n t cs → Gets P 1 n t cs
gets P n t cs l = record { steps = l.steps; enough = omega (arith, l.going); bound = l.bound; shows = l.shows; inside = l.inside; there = l.there }

pub leads_on : (P Q : State → Type 0) (m n : ℕ) (t : State) (cs : List ℕ) → Leads P m t cs → ((u : State) (ds : List ℕ) → P u → Leads Q n u ds) → Leads Q (m + n) t cs
leads_on P Q m n t cs l next =
    gets_leads Q (m + n) t cs (gets_map Q Q (1 + 1) 1 (m + n) (m + n) t cs (omega arith) (omega arith) (λ u q. q)
    (gets_then P Q 1 1 m n t cs (gets P m t cs l) (λ u ds p. gets Q n u ds (next u ds p))))

-- a run of the exchange
pub quiet_leads : (v : Observation) (P : State → Type 0) (n high : ℕ) (s : State) (cs : List ℕ) → observed s ≡ v → ((t : State) → P t → observed t ≡ v) → 0 < n → n ≤ high → runs.Leads (Quiet v) P n s cs → Leads P high s cs
quiet_leads v P n high s cs now shown some top l =
    let r = leads_run (Quiet v) P n s cs l in
    record {
      steps = n;
      going = some;
      bound = top;
      shows = λ i k. ⊎_elim
          (λ (c : i < n). (r.1 i c).shows ∙ sym now)
          (λ (c : n ≤ i). let z : i ≡ n = omega arith in ap (λ i. observed (run i s cs)) z ∙ shown (run n s cs) r.0 ∙ sym now)
          (cases_lt i n);
      inside = λ i k. (r.1 i k).in_code;
      there = r.0;
    }

-- ---- a captured state

-- slots and homes hold what the state does, with these flags, and slot 15 its eip
pub record Holds (s : State) (fl : Flags) (b : Cells) : Type 0 where
  pub outer : b.outer ≡ s.regions
  pub seen : b.seen ≡ observed s
  pub brk_start : b.brk_start ≡ s.brk_start
  pub brk : b.brk ≡ s.brk
  pub slots : (r : ℕ) → r < 8 → b.cell (Slot r) ≡ get_or s.cpu.regs r 0
  pub homes : (r : ℕ) → r < 8 → b.cell (home_in register_homes r) ≡ get_or s.cpu.regs r 0
  pub flags : (f : Flag) → b.cell (Slot (number f)) ≡ bit (flag_of f fl)
  pub df : b.cell (Slot 13) ≡ bit s.cpu.df
  pub aim : b.cell (Slot 15) ≡ s.eip

-- a capture does that
pub captured_holds : (s : State) (a b : Cells) → seen.Stands s a → a.cell (Slot 13) ≡ bit s.cpu.df → a.cell (Slot 15) ≡ s.eip → Captured register_homes a b → Holds s a.flags b
captured_holds s a b st d aim c = record {
  outer = c.besides.outer ∙ st.outer;
  seen = c.besides.seen ∙ st.seen;
  brk_start = c.besides.brk_start ∙ st.brk_start;
  brk = c.besides.brk ∙ st.brk;
  slots = λ r l. c.registers r l ∙ st.regs r l;
  homes = λ r l. c.homed r l ∙ st.regs r l;
  flags = flags;
  df = c.others 13 (omega arith) ∙ d;
  aim = c.others 15 (omega arith) ∙ aim;
}
  where
    flags : (f : Flag) → b.cell (Slot (number f)) ≡ bit (flag_of f a.flags)
    flags CF = c.cf
    flags PF = c.pf
    flags ZF = c.zf
    flags SF = c.sf
    flags OF = c.of

-- and eax and flags are free
pub holds_compared : (s : State) (fl : Flags) (b : Cells) (v c : ℕ) → Holds s fl b → Holds s fl (act (OCmp (Num v)) b c)
holds_compared s fl b v c k = record { outer = k.outer; seen = k.seen; brk_start = k.brk_start; brk = k.brk; slots = k.slots; homes = k.homes; flags = k.flags; df = k.df; aim = k.aim }

pub holds_eax : (s : State) (fl : Flags) (b : Cells) (v : ℕ) → Holds s fl b → Holds s fl (celled b (Reg 0) v)
holds_eax s fl b v k = record {
  outer = k.outer;
  seen = k.seen;
  brk_start = k.brk_start;
  brk = k.brk;
  slots = k.slots;
  homes = λ r l. same r (k.homes r l);
  flags = k.flags;
  df = k.df;
  aim = k.aim;
}
  where
    home : (r : ℕ) (x y z : Bool) → same_place (if x then Reg 5 else (if y then Reg 3 else (if z then Reg 6 else Slot r))) (Reg 0) ≡ false
    home r true y z = refl
    home r false true z = refl
    home r false false true = refl
    home r false false false = refl

    same : (r : ℕ) {g : ℕ} → b.cell (home_in register_homes r) ≡ g → put (Reg 0) v b.cell (home_in register_homes r) ≡ g
    same r e = rw (home r (nat_eq 4 r) (nat_eq 0 r) (nat_eq 5 r)) e

pub flags_held : (s : State) (a : Cells) → seen.Stands s a → a.cell (Slot 13) ≡ bit s.cpu.df → FlagsHeld a
flags_held s a st d = record { cf = st.held CF; pf = st.held PF; zf = st.held ZF; sf = st.held SF; of = st.held OF; df = rw d (bit_small s.cpu.df) }

holds_flags : (s : State) (fl : Flags) (b : Cells) → Holds s fl b → FlagsHeld b
holds_flags s fl b k = record {
  cf = rw (k.flags CF) (bit_small fl.cf);
  pf = rw (k.flags PF) (bit_small fl.pf);
  zf = rw (k.flags ZF) (bit_small fl.zf);
  sf = rw (k.flags SF) (bit_small fl.sf);
  of = rw (k.flags OF) (bit_small fl.of);
  df = rw (k.df) (bit_small s.cpu.df);
}

-- restored, the registers are the state's
restored_stands : (s : State) (fl : Flags) (b c : Cells) → Agree s.cpu.marks fl s.cpu.flags → Holds s fl b → Restored b c → seen.Stands s c
restored_stands s fl b c g k r = record {
  outer = r.besides.outer ∙ k.outer;
  seen = r.besides.seen ∙ k.seen;
  brk_start = r.besides.brk_start ∙ k.brk_start;
  brk = r.besides.brk ∙ k.brk;
  regs = λ i l. r.registers i l ∙ k.slots i l;
  df = bit_same c.df s.cpu.df (r.df ∙ k.df);
  agree = record {
    cf = λ m. bit_same c.flags.cf fl.cf (r.cf ∙ k.flags CF) ∙ g.cf m;
    pf = λ m. bit_same c.flags.pf fl.pf (r.pf ∙ k.flags PF) ∙ g.pf m;
    zf = λ m. bit_same c.flags.zf fl.zf (r.zf ∙ k.flags ZF) ∙ g.zf m;
    sf = λ m. bit_same c.flags.sf fl.sf (r.sf ∙ k.flags SF) ∙ g.sf m;
    of = λ m. bit_same c.flags.of fl.of (r.of ∙ k.flags OF) ∙ g.of m;
  };
  held = λ f. rw (r.slots (number f), k.flags f) (bit_small (flag_of f fl));
}

-- ---- the hits

-- what is met stands at its label
pub record HitAt (dest : Dest → ℕ) (plan : Plan) (x index : ℕ) : Type 0 where
  pub label : ℕ
  pub to : ℕ
  pub stands : Stands dest plan.code (dest (dests.Label index)) (hit (plan.is_start x) x label) to

pub hit_at : (dest : Dest → ℕ) (plan : Plan) (l : List ℕ) (i label at to : ℕ) → Stands dest plan.code at (hits plan.is_start l i label) to → (j : ℕ) → j < length l → HitAt dest plan (get_or l j 0) (1 + (i + j))
hit_at dest plan [] i label at to st j b = absurd (omega arith)
hit_at dest plan (x ∷ xs) i label at to st zero b =
    let mid = at + size_of_items (hit (plan.is_start x) x label) in
    let p = stands_parts dest plan.code at (hit (plan.is_start x) x label) (hits plan.is_start xs (suc i) (suc label)) to st.1 in
    let z : 1 + i ≡ 1 + (i + 0) = omega arith in
    record { label = label; to = mid; stands = subst (λ n. Stands dest plan.code (dest (dests.Label n)) (hit (plan.is_start x) x label) mid) z (subst (λ a. Stands dest plan.code a (hit (plan.is_start x) x label) mid) st.0 p.0) }
hit_at dest plan (x ∷ xs) i label at to st (suc j) b =
    let mid = at + size_of_items (hit (plan.is_start x) x label) in
    let p = stands_parts dest plan.code at (hit (plan.is_start x) x label) (hits plan.is_start xs (suc i) (suc label)) to st.1 in
    let z : 1 + (suc i + j) ≡ 1 + (i + suc j) = omega arith in
    subst (λ n. HitAt dest plan (get_or xs j 0) n) z (hit_at dest plan xs (suc i) (suc label) mid to p.1 j (omega arith))

pub hit_low : (dest : Dest → ℕ) (plan : Plan) (x label at to : ℕ) (start : Bool) → IsCode plan.code → Stands dest plan.code at (hit start x label) to → at < 2 ^ 32
hit_low dest plan x label at to start code st = by start st
  where
    low : (i : Inst) (n : ℕ) → Reads plan.code at i n → at < 2 ^ 32
    low i n r = let a = r.starts in let b = code.below in omega arith

    by : (start : Bool) → Stands dest plan.code at (hit start x label) to → at < 2 ^ 32
    by true st = low _ _ st.0
    by false st = low _ _ st.0

module _ (exe : Exe) (plan : Plan) (copies : Copies) (code : IsCode plan.code) (meet : HomesMeet register_homes plan) (low : AreLow plan copies) (dest : Dest → ℕ)
    (exchange : (s : State) (a : Cells) (cs : List ℕ) → Sees plan.code s a → FlagsHeld a → ExchangeKeeps plan.code register_homes dest s a cs)
    (jumps : JumpsLead plan.code dest)
    (block : (y : ℕ) → dest (dests.Block y) ≡ goes_cold plan copies y)
    (s : State) (fl : Flags) (agree : Agree s.cpu.marks fl s.cpu.flags) (of : IsOf exe s) (goes : s.stop ≡ Running) where
  abbrev Goal : State → Type 0
  Goal u = Landed plan copies exe s.eip s u

  -- the homes of a captured state are those of a block
  at_block : (u : State) (b : Cells) → plan.is_start s.eip ≡ true → Holds s fl b → At plan b (plan.address s.eip) u → AtBlock plan (IsOf exe) s.eip s u
  at_block u b start k h = record {
    start = start;
    eip = refl;
    goes = goes;
    static = of;
    cells = b;
    sees = h.sees;
    there = h.eip;
    outer = k.outer;
    homes = record {
      regs = λ r l on. ap b.cell (meet.home r (omega (arith, l))) ∙ k.homes r l;
      flags = λ f on m. flag f ∙ ap bit (agree_at s.cpu.marks fl s.cpu.flags agree f m);
      df = λ on. ap b.cell (meet.home 13 (omega arith)) ∙ k.df;
    };
    bits = record { flags = λ f. rw (flag f) (bit_small (flag_of f fl)); df = rw (ap b.cell (meet.home 13 (omega arith)) ∙ k.df) (bit_small s.cpu.df) };
    shows = k.seen;
    brk_start = k.brk_start;
    brk = k.brk;
  }
    where
      flag : (f : Flag) → at_home plan b (number f) ≡ bit (flag_of f fl)
      flag CF = ap b.cell (meet.home 8 (omega arith)) ∙ k.flags CF
      flag PF = ap b.cell (meet.home 9 (omega arith)) ∙ k.flags PF
      flag ZF = ap b.cell (meet.home 10 (omega arith)) ∙ k.flags ZF
      flag SF = ap b.cell (meet.home 11 (omega arith)) ∙ k.flags SF
      flag OF = ap b.cell (meet.home 12 (omega arith)) ∙ k.flags OF

  -- the state in its registers, in cells
  record Back (at : ℕ) (u : State) : Type 0 where
    cells : Cells
    here : At plan cells at u
    stands : seen.Stands s cells
    df : cells.cell (Slot 13) ≡ bit s.cpu.df
    aim : cells.cell (Slot 15) ≡ s.eip

  restores : (u : State) (b : Cells) (at to label : ℕ) (cs : List ℕ) → Holds s fl b → At plan b at u → Stands dest plan.code at (restore_items label) to → Leads (Back to) 28 u cs
  restores u b at to label cs k h st =
      let d = k.df in
      let f = bit_small s.cpu.df in
      let back : (w : State) → Comes plan.code to (Restored b) w → Back to w = λ w c. record { cells = c.cells; here = record { sees = c.sees; eip = c.eip }; stands = restored_stands s fl b c.cells agree k c.holds; df = c.holds.slots 13 ∙ k.df; aim = c.holds.slots 15 ∙ k.aim } in
      lead_map (Comes plan.code to (Restored b)) (Back to) 28 u cs back
      (quiet_leads b.seen (Comes plan.code to (Restored b)) (27 + b.cell (Slot 13)) 28 u cs h.sees.seen (λ w c. c.sees.seen ∙ c.holds.besides.seen) (omega arith) (omega (arith, d, f))
      ((exchange u b cs h.sees (holds_flags s fl b k)).restore label to (subst (λ e. Stands dest plan.code e (restore_items label) to) (sym h.eip) st)))

  there : (e : ℕ) (u : State) (at : ℕ) → (r : Back at u) → InPlace plan e s (record u { eip = e })
  there e u at r = in_place plan code s (record u { eip = e }) r.cells e of.state.sound.regs.count (record { sees = at_seen u r.cells e r.here.sees; eip = refl }) r.stands r.df

  -- a member is a start or cold
  pub hit_leads : (label at to : ℕ) (u : State) (b : Cells) (cs : List ℕ) → (plan.is_start s.eip || copies.cold s.eip) ≡ true → Holds s fl b → At plan b at u → Stands dest plan.code at (hit (plan.is_start s.eip) s.eip label) to → Leads Goal 29 u cs
  hit_leads label at to u b cs either k h st = by (plan.is_start s.eip) refl either st
    where
      by : (c : Bool) → plan.is_start s.eip ≡ c → (c || copies.cold s.eip) ≡ true → Stands dest plan.code at (hit c s.eip label) to → Leads Goal 29 u cs
      by true e m st =
          let l = low.start s.eip e in
          let d : dest (dests.Block s.eip) ≡ plan.address s.eip = block s.eip ∙ rw (ne_eqb s.eip 0 l.0, e) refl in
          wider Goal 1 29 u cs (omega arith)
          (jump_leads plan code Goal u b at (plan.address s.eip) cs h (subst (λ k. Reads plan.code at (inst.Jmp (distance (at + 5) k)) 5) d st.0) l.1
          (in_block (at_block (record u { eip = plan.address s.eip }) b e k (record { sees = at_seen u b (plan.address s.eip) h.sees; eip = refl }))))
      by false e m st =
          let l = low.cold s.eip m in
          let d : dest (dests.Block s.eip) ≡ copies.place s.eip 0 = block s.eip ∙ rw (ne_eqb s.eip 0 l.0, e) refl in
          let mid = at + size_of_items (restore_items label) in
          let p = stands_parts dest plan.code at (restore_items label) (item.Jump None (dests.Block s.eip) ∷ []) to st in
          leads_on (Back mid) Goal 28 1 u cs (restores u b at mid label cs k h p.0)
          (λ w ds r. jump_leads plan code Goal w r.cells mid (copies.place s.eip 0) ds r.here (subst (λ k. Reads plan.code mid (inst.Jmp (distance (mid + 5) k)) 5) d p.1.0) l.1 (in_copy m (there (copies.place s.eip 0) w mid r)))

  -- what is no member is neither
  pub miss_leads : (label at to : ℕ) (u : State) (b : Cells) (cs : List ℕ) → (plan.is_start s.eip || copies.cold s.eip) ≡ false → Holds s fl b → At plan b at u → Stands dest plan.code at (restore_items label ++ (item.Inst (inst.JmpRm (rm_of (Slot 15))) ∷ [])) to → Leads Goal 29 u cs
  miss_leads label at to u b cs neither k h st =
      let mid = at + size_of_items (restore_items label) in
      let p = stands_parts dest plan.code at (restore_items label) (item.Inst (inst.JmpRm (rm_of (Slot 15))) ∷ []) to st in
      let n = both (plan.is_start s.eip) (copies.cold s.eip) neither in
      leads_on (Back mid) Goal 28 1 u cs (restores u b at mid label cs k h p.0)
      (λ w ds r. quiet_leads r.cells.seen Goal 1 1 w ds r.here.sees.seen (λ v g. shown v g ∙ sym r.stands.seen) (omega arith) (omega arith) (jumped n mid w ds r p.1.0))
    where
      both : (x y : Bool) → (x || y) ≡ false → (x ≡ false) × (y ≡ false)
      both true y e = absurd (cc e)
      both false y e = (refl, e)

      shown : (v : State) → Goal v → observed v ≡ observed s
      shown v (in_block g) = g.sees.seen ∙ g.shows
      shown v (in_copy c g) = ap observed g.wider.same
      shown v (in_original why own size g) = ap observed g.same

      jumped : (plan.is_start s.eip ≡ false) × (copies.cold s.eip ≡ false) → (mid : ℕ) (w : State) (ds : List ℕ) (r : Back mid w) → Reads plan.code mid (inst.JmpRm (rm_of (Slot 15))) (length (canonical (inst.JmpRm (rm_of (Slot 15))))) → runs.Leads (Quiet r.cells.seen) Goal 1 w ds
      jumped n mid w ds r reads = done
          (jumps.by_slot w r.cells 15 ds r.here.sees (omega arith) (subst (λ e. Reads plan.code e (inst.JmpRm (rm_of (Slot 15))) (length (canonical (inst.JmpRm (rm_of (Slot 15)))))) (sym r.here.eip) reads))
        where
          place : InPlace plan s.eip s (record w { eip = s.eip })
          place = there s.eip w mid r

          done : runs.Leads (Quiet r.cells.seen) (λ t. t ≡ record w { eip = r.cells.cell (Slot 15) }) 1 w ds → runs.Leads (Quiet r.cells.seen) Goal 1 w ds
          done l = leads_map (Quiet r.cells.seen) (Quiet r.cells.seen) (λ t. t ≡ record w { eip = r.cells.cell (Slot 15) }) Goal 1 w ds (λ t q. q) (λ t e. subst Goal (sym (e ∙ ap (λ y. record w { eip = y }) r.aim)) (in_original (inl n) place.own place.ready.size place.wider)) l
