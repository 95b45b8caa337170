-- A state in place seen by cells, and cells that stand for a state in place.
use Rattle.std.proofs.Common.{◌≡◌, ℕ, ◌+◌, ◌*◌, ◌^◌, ◌<◌, ◌≤◌, List, ◌∷◌, length, get_or, refl, sym, ap, ◌∙◌, subst, arith}
use Rattle.std.proofs.lemmas.Grind.{same_number_lists}
use Rattle.br_word.specs.declared.types.Flags.{Flags}
use Rattle.br_word.specs.Words.{bit}
use Rattle.br_word.specs.State.{State, Running, Flag, CF, PF, ZF, SF, OF, AreRegs}
use Rattle.run_model.specs.Run.{observed}
use Rattle.sim_laws.specs.Wider.{Agree}
use Rattle.par_moves.specs.declared.locations.Place.{Place}
use Rattle.par_moves.specs.declared.locations.Place.TheVariants.{Reg, Slot}
use Rattle.par_moves.specs.Locations.{InRange}
use Rattle.ssa_form.specs.Agree.{number}
use Rattle.code_laws.specs.Seen.{Cells, Sees, private_region, word}
use Rattle.std.proofs.lemmas.Bool.{ne_eqb}
use Rattle.sim_runs.proofs.Same.{same_placed}
use Rattle.code_laws.proofs.Memory.{word_at}
use Rattle.code_laws.proofs.Ops.{celled, put}
use Rattle.sim_runs.specs.Native.{placed}
use Rattle.sim_runs.specs.Relation.{Plan, Ready, IsBeside, extra_of}
use Rattle.sim_runs.specs.Relation.{InPlace}

-- the cells hold what the state does, but for the slot of DF
pub record Stands (s : State) (a : Cells) : Type 0 where
  pub outer : a.outer ≡ s.regions
  pub seen : a.seen ≡ observed s
  pub brk_start : a.brk_start ≡ s.brk_start
  pub brk : a.brk ≡ s.brk
  pub regs : (r : ℕ) → r < 8 → a.cell (Reg r) ≡ get_or s.cpu.regs r 0
  pub df : a.df ≡ s.cpu.df
  pub agree : Agree s.cpu.marks a.flags s.cpu.flags
  pub held : (f : Flag) → a.cell (Slot (number f)) < 2

number_low : (f : Flag) → number f < 16384
number_low CF = omega arith
number_low PF = omega arith
number_low ZF = omega arith
number_low SF = omega arith
number_low OF = omega arith

-- ---- from a state to cells

pub own_cell : State → List ℕ → Place → ℕ
own_cell s own (Reg r) = get_or s.cpu.regs r 0
own_cell s own (Slot k) = word own k

-- the file's guest with these flags and marks beside s
abbrev pub cells_of : State → List ℕ → Flags → Flags → Cells
cells_of s own fl mk = record { cell = own_cell s own; flags = fl; marks = mk; df = s.cpu.df; outer = s.regions; seen = observed s; brk_start = s.brk_start; brk = s.brk }

pub own_small : (s : State) (own : List ℕ) → AreRegs s.cpu.regs → length own ≡ 65536 → ((i : ℕ) → get_or own i 0 < 256) → (p : Place) → InRange p → own_cell s own p < 2 ^ 32
unfolding own_cell
own_small s own regs size bytes (Reg r) l = regs.small r
own_small s own regs size bytes (Slot k) l =
    let e = word_at own (4 * k) (omega (arith, size, l)) in
    let b0 = bytes (4 * k) in
    let b1 = bytes (4 * k + 1) in
    let b2 = bytes (4 * k + 1 + 1) in
    let b3 = bytes (4 * k + 1 + 1 + 1) in
    omega (arith, e, b0, b1, b2, b3)

pub placed_seen : (plan : Plan) (own : List ℕ) (fl mk : Flags) (at : ℕ) (s : State) → AreRegs s.cpu.regs → length own ≡ 65536 → ((i : ℕ) → get_or own i 0 < 256) → s.stop ≡ Running → Sees plan.code (placed (extra_of plan own) fl mk at s) (cells_of s own fl mk)
unfolding own_cell
placed_seen plan own fl mk at s regs size bytes goes = record {
  own = own;
  regions = refl;
  slots = record { size = size; bytes = bytes; words = λ k l. refl };
  regs = record { count = regs.count; each = λ r l. refl };
  small = own_small s own regs size bytes;
  flags = refl;
  marks = refl;
  df = refl;
  seen = refl;
  brk_start = refl;
  brk = refl;
  running = goes;
}

pub placed_stands : (own : List ℕ) (fl mk : Flags) (s : State) → Agree s.cpu.marks fl s.cpu.flags → ((f : Flag) → word own (number f) < 2) → Stands s (cells_of s own fl mk)
unfolding own_cell
placed_stands own fl mk s agree held = record { outer = refl; seen = refl; brk_start = refl; brk = refl; regs = λ r l. refl; df = refl; agree = agree; held = held }

-- ---- and back

pub seen_beside : (plan : Plan) (at : ℕ) (s u : State) (a : Cells) → length s.cpu.regs ≡ 8 → (h : Sees plan.code u a) → u.eip ≡ at → Stands s a → IsBeside plan h.own at s u
seen_beside plan at s u a eight h eip st =
    let regs : u.cpu.regs ≡ s.cpu.regs = same_number_lists u.cpu.regs s.cpu.regs (h.regs.count ∙ sym eight) (λ k l. let q : k < 8 = omega (arith, h.regs.count) in h.regs.each k q ∙ st.regs k q) in
    record {
      flags = u.cpu.flags;
      marks = u.cpu.marks;
      agree = subst (λ fl. Agree s.cpu.marks fl s.cpu.flags) (sym h.flags) st.agree;
      same = same_placed (extra_of plan h.own) at s u eip regs (h.df ∙ st.df) (h.regions ∙ ap (λ o. plan.code ∷ private_region h.own ∷ o) st.outer) (h.brk_start ∙ st.brk_start) (h.brk ∙ st.brk) (h.seen ∙ st.seen);
    }

pub seen_ready : (plan : Plan) (s u : State) (a : Cells) → (h : Sees plan.code u a) → Stands s a → a.cell (Slot 13) ≡ bit s.cpu.df → Ready h.own s.cpu.df
seen_ready plan s u a h st d = record {
  size = h.slots.size;
  bytes = h.slots.bytes;
  df_word = h.slots.words 13 (omega arith) ∙ d;
  flags = λ f. subst (λ n. n < 2) (sym (h.slots.words (number f) (number_low f))) (st.held f);
}

pub seen_in_place : (plan : Plan) (at : ℕ) (s u : State) (a : Cells) → length s.cpu.regs ≡ 8 → Sees plan.code u a → u.eip ≡ at → Stands s a → a.cell (Slot 13) ≡ bit s.cpu.df → InPlace plan at s u
seen_in_place plan at s u a eight h eip st d = record { own = h.own; ready = seen_ready plan s u a h st d; wider = seen_beside plan at s u a eight h eip st }

-- ---- a slot behind those of the flags

pub put_stands : (s : State) (a : Cells) (k v : ℕ) → 13 ≤ k → Stands s a → Stands s (celled a (Slot k) v)
put_stands s a k v high st = record { outer = st.outer; seen = st.seen; brk_start = st.brk_start; brk = st.brk; regs = st.regs; df = st.df; agree = st.agree; held = held }
  where
    held : (f : Flag) → put (Slot k) v a.cell (Slot (number f)) < 2
    held CF = rw (ne_eqb 8 k (omega (arith, high))) (st.held CF)
    held PF = rw (ne_eqb 9 k (omega (arith, high))) (st.held PF)
    held ZF = rw (ne_eqb 10 k (omega (arith, high))) (st.held ZF)
    held SF = rw (ne_eqb 11 k (omega (arith, high))) (st.held SF)
    held OF = rw (ne_eqb 12 k (omega (arith, high))) (st.held OF)

pub placed_df : (own : List ℕ) (fl mk : Flags) (s : State) → word own 13 ≡ bit s.cpu.df → (cells_of s own fl mk).cell (Slot 13) ≡ bit s.cpu.df
unfolding own_cell
placed_df own fl mk s e = e

pub placed_slot : (own : List ℕ) (fl mk : Flags) (s : State) (k v : ℕ) → word own k ≡ v → (cells_of s own fl mk).cell (Slot k) ≡ v
unfolding own_cell
placed_slot own fl mk s k v e = e
