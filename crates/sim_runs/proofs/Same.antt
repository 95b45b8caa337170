-- States that are the same.
use Rattle.std.proofs.Common.{◌≡◌, ℕ, ◌<◌, Bool, true, false, List, ◌∷◌, ◌++◌, length, get_or, refl, sym, ap, ◌∙◌, arith, ◌⊎◌, inl, inr}
use Rattle.std.specs.Prelude.{nat_lt, nat_eq, if◌then◌else◌}
use Rattle.std.proofs.lemmas.Bool.{lt-ltb}
use Rattle.std.proofs.lemmas.Grind.{same_number_lists}
use Rattle.br_word.specs.declared.types.Flags.{Flags}
use Rattle.br_word.specs.Memory.{Region}
use Rattle.br_word.specs.State.{State, RunState, Running, Exited, Faulted, Flag, CF, PF, ZF, SF, OF, flag_of}
use Rattle.run_model.specs.Run.{Observation, observed}
use Rattle.ia_inst.specs.Step.{step, unless_stopped, settled, step_result}
use Rattle.sim_runs.specs.Native.{placed}
use Rattle.code_laws.specs.Seen.{Cells, private_region}
use Rattle.br_word.specs.Words.{bit}
use Rattle.ssa_form.specs.Agree.{number, AgreesOn, AreBits, every}
use Rattle.sim_runs.specs.Relation.{Plan, extra_of, IsBeside, IsOver}
use Rattle.sim_runs.specs.Laws.{Restored}

pub bit_same : (a b : Bool) → bit a ≡ bit b → a ≡ b
bit_same true true e = refl
bit_same false false e = refl
bit_same true false e = absurd (omega arith)
bit_same false true e = absurd (omega arith)

pub bit_small : (b : Bool) → bit b < 2
bit_small true = omega arith
bit_small false = omega arith

abbrev make : ℕ → List ℕ → Flags → Bool → Flags → List Region → ℕ → ℕ → Observation → State
make eip regs flags df marks regions bs b w = record {
  eip = eip;
  cpu = record { regs = regs; flags = flags; df = df; marks = marks };
  regions = regions;
  brk_start = bs;
  brk = b;
  input = w.input;
  out = w.out;
  err = w.err;
  stop = w.stop;
}

-- a state beside another is told by its parts
pub same_placed : (extra : List Region) (at : ℕ) (s t : State) → t.eip ≡ at → t.cpu.regs ≡ s.cpu.regs → t.cpu.df ≡ s.cpu.df → t.regions ≡ extra ++ s.regions → t.brk_start ≡ s.brk_start → t.brk ≡ s.brk → observed t ≡ observed s → t ≡ placed extra t.cpu.flags t.cpu.marks at s
same_placed extra at s t e r d m bs b w =
    ap (λ v. make v t.cpu.regs t.cpu.flags t.cpu.df t.cpu.marks t.regions t.brk_start t.brk (observed t)) e
    ∙ ap (λ v. make at v t.cpu.flags t.cpu.df t.cpu.marks t.regions t.brk_start t.brk (observed t)) r
    ∙ ap (λ v. make at s.cpu.regs t.cpu.flags v t.cpu.marks t.regions t.brk_start t.brk (observed t)) d
    ∙ ap (λ v. make at s.cpu.regs t.cpu.flags s.cpu.df t.cpu.marks v t.brk_start t.brk (observed t)) m
    ∙ ap (λ v. make at s.cpu.regs t.cpu.flags s.cpu.df t.cpu.marks (extra ++ s.regions) v t.brk (observed t)) bs
    ∙ ap (λ v. make at s.cpu.regs t.cpu.flags s.cpu.df t.cpu.marks (extra ++ s.regions) s.brk_start v (observed t)) b
    ∙ ap (λ v. make at s.cpu.regs t.cpu.flags s.cpu.df t.cpu.marks (extra ++ s.regions) s.brk_start s.brk v) w

-- the numbers that the processor holds are the other guest's
pub restored_wider : (plan : Plan) (at : ℕ) (g : ℕ → ℕ) (outer : List Region) (a : Cells) (s t : State) (z : Restored plan at g outer a t) → AgreesOn every s.cpu g → outer ≡ s.regions → a.seen ≡ observed s → a.brk_start ≡ s.brk_start → a.brk ≡ s.brk → length s.cpu.regs ≡ 8 → IsBeside plan z.own at s t
restored_wider plan at g outer a s t z h o w bs b n =
    let regs : t.cpu.regs ≡ s.cpu.regs = same_number_lists t.cpu.regs s.cpu.regs (z.count ∙ sym n) (λ k l. let q : k < 8 = omega (arith, z.count) in z.regs k q ∙ h.regs k q refl) in
    let df : t.cpu.df ≡ s.cpu.df = bit_same _ _ (z.df ∙ h.df refl) in
    record {
      flags = t.cpu.flags;
      marks = t.cpu.marks;
      agree = record { cf = at_flag CF; pf = at_flag PF; zf = at_flag ZF; sf = at_flag SF; of = at_flag OF };
      same = same_placed (extra_of plan z.own) at s t z.eip regs df (z.mem ∙ ap (λ o. plan.code ∷ private_region z.own ∷ o) o) (z.brk_start ∙ bs) (z.brk ∙ b) (z.shows ∙ w);
    }
  where
    at_flag : (f : Flag) → flag_of f s.cpu.marks ≡ true → flag_of f t.cpu.flags ≡ flag_of f s.cpu.flags
    at_flag f m = bit_same _ _ (z.flags f ∙ h.flags f refl m)

-- the virtual registers of a guest
pub own_value : State → ℕ → ℕ
own_value s v = if nat_lt v 8 then get_or s.cpu.regs v 0 else if nat_eq v 8 then bit s.cpu.flags.cf else if nat_eq v 9 then bit s.cpu.flags.pf else if nat_eq v 10 then bit s.cpu.flags.zf else if nat_eq v 11 then bit s.cpu.flags.sf else if nat_eq v 12 then bit s.cpu.flags.of else bit s.cpu.df

-- what the homes hold where it is live, and else the guest's own
pub overlay : (ℕ → Bool) → (ℕ → ℕ) → State → ℕ → ℕ
overlay on g s v = if on v then g v else own_value s v

pub overlay_on : (on : ℕ → Bool) (g : ℕ → ℕ) (s : State) (v : ℕ) → on v ≡ true → g v ≡ overlay on g s v
unfolding overlay
overlay_on on g s v e = rw e refl

own_flag : (s : State) (f : Flag) → own_value s (number f) ≡ bit (flag_of f s.cpu.flags)
unfolding own_value
own_flag s CF = refl
own_flag s PF = refl
own_flag s ZF = refl
own_flag s SF = refl
own_flag s OF = refl

own_reg : (s : State) (r : ℕ) → r < 8 → own_value s r ≡ get_or s.cpu.regs r 0
unfolding own_value
own_reg s r h = rw (lt-ltb r 8 h) refl

own_df : (s : State) → own_value s 13 ≡ bit s.cpu.df
unfolding own_value
own_df s = refl

pub overlay_agrees : (on : ℕ → Bool) (g : ℕ → ℕ) (s : State) → AgreesOn on s.cpu g → AgreesOn every s.cpu (overlay on g s)
unfolding overlay
overlay_agrees on g s h = record {
  regs = λ r l _. pick r (get_or s.cpu.regs r 0) (on r) refl (h.regs r l) (own_reg s r l);
  flags = λ f _ m. pick (number f) (bit (flag_of f s.cpu.flags)) (on (number f)) refl (λ e. h.flags f e m) (own_flag s f);
  df = λ _. pick 13 (bit s.cpu.df) (on 13) refl h.df (own_df s);
}
  where
    pick : (v y : ℕ) (b : Bool) → on v ≡ b → (on v ≡ true → g v ≡ y) → own_value s v ≡ y → (if b then g v else own_value s v) ≡ y
    pick v y true e k o = k e
    pick v y false e k o = o

pub overlay_bits : (on : ℕ → Bool) (g : ℕ → ℕ) (s : State) → AreBits g → AreBits (overlay on g s)
unfolding overlay
overlay_bits on g s h = record {
  flags = λ f. pick (number f) (bit (flag_of f s.cpu.flags)) (on (number f)) (h.flags f) (own_flag s f) (bit_small _);
  df = pick 13 (bit s.cpu.df) (on 13) h.df (own_df s) (bit_small _);
}
  where
    pick : (v y : ℕ) (b : Bool) → g v < 2 → own_value s v ≡ y → y < 2 → (if b then g v else own_value s v) < 2
    pick v y true k o l = k
    pick v y false k o l = rw o l

-- a guest that has stopped stays
pub stays : (s : State) (c : ℕ) → IsOver s.stop → step s c ≡ s
unfolding step
stays s c h = go s.stop h
  where
    go : (stop : RunState) → IsOver stop → unless_stopped stop s (settled (step_result s c) s) ≡ s
    go Running h = absurd h
    go (Exited n) h = refl
    go (Faulted f) h = refl

pub is_over : (s : State) → (s.stop ≡ Running) ⊎ IsOver s.stop
is_over s = go s.stop refl
  where
    go : (stop : RunState) → s.stop ≡ stop → (s.stop ≡ Running) ⊎ IsOver s.stop
    go Running e = inl e
    go (Exited n) e = inr (rw e tt)
    go (Faulted f) e = inr (rw e tt)
