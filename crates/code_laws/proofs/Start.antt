-- A private segment of zeros; jumps.
use Rattle.std.proofs.Common.{◌≡◌, ℕ, ◌+◌, ◌*◌, ◌^◌, ◌<◌, ◌≤◌, Bool, true, false, not, List, drop, length, get_or, replicate, refl, ap, ◌∙◌, arith, ⊎_elim, if◌then◌else◌}
use Rattle.std.proofs.lemmas.List.{get_or-replicate, get_or_past, length-replicate}
use Rattle.std.proofs.lemmas.Bool.{cases_lt}
use Rattle.br_word.specs.Memory.{Region, zeros}
use Rattle.br_word.specs.State.{State}
use Rattle.ia_inst.specs.declared.inst.Inst.TheVariants.{Jcc, Jmp, JmpRm}
use Rattle.ia_inst.specs.Canonical.{canonical}
use Rattle.ia_inst.specs.Act.{Ends, Past, To}
use Rattle.ia_inst.specs.Meaning.{meaning, wrap, no_changes}
use Rattle.ia_inst.specs.Step.{next_eip, result_of, settled}
use Rattle.run_model.specs.Run.{first_choice}
use Rattle.par_moves.specs.declared.locations.Place.{Place}
use Rattle.par_moves.specs.declared.locations.Place.TheVariants.{Reg, Slot}
use Rattle.par_moves.specs.declared.locations.MoveSource.TheVariants.{Place as Held}
use Rattle.par_moves.specs.Locations.{InRange, rm_of}
use Rattle.ia_encode.specs.declared.item.Dest.{Dest}
use Rattle.ia_encode.specs.Items.{distance, Reads}
use Rattle.code_laws.specs.Seen.{Cells, word, IsCode, Sees, Leads, Quiet}
use Rattle.code_laws.specs.Laws.{start_cell, StartSeen, JumpsLead}
use Rattle.code_laws.proofs.Memory.{word_at}
use Rattle.code_laws.proofs.Follows.{reads}
use Rattle.code_laws.proofs.Runs.{step_then, leads_none, lands}

zero_at : (n i : ℕ) → get_or (zeros n) i 0 ≡ 0
unfolding zeros
zero_at n i = ⊎_elim (λ (h : i < n). get_or-replicate {A = ℕ} n i 0 0 h) (λ (h : n ≤ i). get_or_past (replicate {A = ℕ} n 0) i 0 (omega (arith, length-replicate {A = ℕ} n 0))) (cases_lt i n)

length_zeros : (n : ℕ) → length (zeros n) ≡ n
unfolding zeros
length_zeros n = length-replicate n 0

zero_word : (n k : ℕ) → 4 * k + 4 ≤ n → word (zeros n) k ≡ 0
zero_word n k h = let l = length_zeros n in word_at (zeros n) (4 * k) (omega arith) ∙ rw (zero_at n (4 * k), zero_at n (4 * k + 1), zero_at n (4 * k + 1 + 1), zero_at n (4 * k + 1 + 1 + 1)) refl

pub start_seen : StartSeen
start_seen code outer n s e m count small live = record {
  own = zeros n;
  regions = m;
  slots = record { size = length_zeros n ∙ e; bytes = λ i. rw (zero_at n i) (omega arith); words = λ k h. zero_word n k (omega arith) };
  regs = record { count = count; each = λ r h. refl };
  small = smalls;
  flags = refl;
  marks = refl;
  df = refl;
  seen = refl;
  brk_start = refl;
  brk = refl;
  running = live;
}
  where
    smalls : (p : Place) → InRange p → start_cell s.cpu.regs p < 2 ^ 32
    smalls (Reg r) h = small r h
    smalls (Slot k) h = omega arith

-- ---- jumps

module _ {code : Region} (here : IsCode code) where
  ends : (s : State) (a : Cells) (cs : List ℕ) (to : ℕ) → Leads (Quiet a.seen) (λ t. t ≡ record s { eip = to }) 0 (record s { eip = to }) cs
  ends s a cs to = leads_none (Quiet a.seen) (λ t. t ≡ record s { eip = to }) (record s { eip = to }) cs refl

  always : (s : State) (a : Cells) (to : ℕ) (cs : List ℕ) → Sees code s a → to < 2 ^ 32 → Reads code s.eip (Jmp (distance (s.eip + 5) to)) 5 → Leads (Quiet a.seen) (λ t. t ≡ record s { eip = to }) 1 s cs
  unfolding meaning
  always s a to cs h f r =
      let b = here.below in
      let e = r.ends in
      step_then here s a (Jmp (distance (s.eip + 5) to)) 5 0 cs (λ t. t ≡ record s { eip = to }) (record s { eip = to }) h r (ap (λ p. record s { eip = p }) (lands (s.eip + 5) to (omega arith) f)) (ends s a (drop 1 cs) to)

  -- a condition that is z
  places : (s : State) (to : ℕ) (z : Bool) → s.eip + 6 ≤ 2 ^ 32 → s.eip + 6 < 2 ^ 32 → to < 2 ^ 32 → next_eip (if z then To (wrap (s.eip + 6 + distance (s.eip + 6) to)) else Past 6) s.eip ≡ (if z then to else s.eip + 6)
  places s to true l m f = lands (s.eip + 6) to l f
  places s to false l m f = omega arith

  turned : (z : Bool) (x y : ℕ) → (if not z then x else y) ≡ (if z then y else x)
  turned true x y = refl
  turned false x y = refl

  on_zero : (s : State) (a : Cells) (to : ℕ) (cs : List ℕ) → Sees code s a → to < 2 ^ 32 → Reads code s.eip (Jcc 4 (distance (s.eip + 6) to)) 6 → Leads (Quiet a.seen) (λ t. t ≡ record s { eip = if a.flags.zf then to else s.eip + 6 }) 1 s cs
  unfolding meaning
  on_zero s a to cs h f r =
      let b = here.below in
      let e = r.ends in
      let next = if a.flags.zf then to else s.eip + 6 in
      step_then here s a (Jcc 4 (distance (s.eip + 6) to)) 6 0 cs (λ t. t ≡ record s { eip = next }) (record s { eip = next }) h r
      (ap (λ p. record s { eip = p }) (places s to s.cpu.flags.zf (omega arith) (omega arith) f ∙ ap (λ g. if g.zf then to else s.eip + 6) h.flags)) (ends s a (drop 1 cs) next)

  on_nonzero : (s : State) (a : Cells) (to : ℕ) (cs : List ℕ) → Sees code s a → to < 2 ^ 32 → Reads code s.eip (Jcc 5 (distance (s.eip + 6) to)) 6 → Leads (Quiet a.seen) (λ t. t ≡ record s { eip = if a.flags.zf then s.eip + 6 else to }) 1 s cs
  unfolding meaning
  on_nonzero s a to cs h f r =
      let b = here.below in
      let e = r.ends in
      let next = if a.flags.zf then s.eip + 6 else to in
      step_then here s a (Jcc 5 (distance (s.eip + 6) to)) 6 0 cs (λ t. t ≡ record s { eip = next }) (record s { eip = next }) h r
      (ap (λ p. record s { eip = p }) (places s to (not s.cpu.flags.zf) (omega arith) (omega arith) f ∙ turned s.cpu.flags.zf to (s.eip + 6) ∙ ap (λ g. if g.zf then s.eip + 6 else to) h.flags)) (ends s a (drop 1 cs) next)

  by_slot : (s : State) (a : Cells) (k : ℕ) (cs : List ℕ) → Sees code s a → k < 16384 → Reads code s.eip (JmpRm (rm_of (Slot k))) (length (canonical (JmpRm (rm_of (Slot k))))) → Leads (Quiet a.seen) (λ t. t ≡ record s { eip = a.cell (Slot k) }) 1 s cs
  unfolding meaning
  by_slot s a k cs h f r =
      let n = length (canonical (JmpRm (rm_of (Slot k)))) in
      step_then here s a (JmpRm (rm_of (Slot k))) n 0 cs (λ t. t ≡ record s { eip = a.cell (Slot k) }) (record s { eip = a.cell (Slot k) }) h r
      (ap (λ z. settled (result_of z s) s) (reads here s a h n (first_choice cs) (Held (Slot k)) f (λ v. Ends s.cpu.regs s.cpu.df no_changes (To v)))) (ends s a (drop 1 cs) (a.cell (Slot k)))

  pub jumps_lead : (dest : Dest → ℕ) → JumpsLead code dest
  jumps_lead dest = record {
    always = λ s a d cs h f r. always s a (dest d) cs h f r;
    zero = λ s a d cs h f r. on_zero s a (dest d) cs h f r;
    nonzero = λ s a d cs h f r. on_nonzero s a (dest d) cs h f r;
    by_slot = by_slot;
  }
