-- The two guests as they begin.
use Rattle.std.proofs.Common.{◌≡◌, ℕ, ◌+◌, ◌-◌, ◌*◌, ◌<◌, ◌≤◌, true, false, List, [], ◌∷◌, ◌++◌, length, take, map, get_or, refl, sym, ap, ◌∙◌, subst, arith, lit≤, ⊎_elim}
use Rattle.std.specs.Prelude.{replicate}
use Rattle.std.proofs.lemmas.Bool.{cases_lt}
use Rattle.std.proofs.lemmas.List.{take-replicate, drop-replicate, get_or-replicate, get_or_past}
use Rattle.br_word.specs.Memory.{Region, number_of, zeros}
use Rattle.br_word.specs.State.{State, Flag, CF, PF, ZF, SF, OF, all_flags}
use Rattle.br_word.proofs.Numbers.{length_zeros}
use Rattle.elf_read.specs.declared.exe.Segment.{Segment}
use Rattle.elf_read.specs.declared.exe.Exe.{Exe}
use Rattle.elf_read.specs.Elf.{IsOriginal, AreSegments, is_exec, end_of_last}
use Rattle.elf_read.proofs.Accepted.{last_high}
use Rattle.elf_read.specs.Regions.{region_of}
use Rattle.run_model.specs.Opening.{opening}
use Rattle.sim_laws.specs.Wider.{AllHigh, IsHigh}
use Rattle.sim_runs.specs.Native.{placed}
use Rattle.sim_runs.specs.Relation.{Plan, Ready, IsBeside, aside, extra_of}
use Rattle.code_laws.specs.Seen.{word, private_region}
use Rattle.ssa_form.specs.Agree.{number}
use Rattle.sim_runs.specs.Image.{Opening, Capturable}
use Rattle.sim_runs.specs.Promised.{IsOf, Exchanges, laid_exe}

-- ---- a private segment of zeros

zero_word : (k : ℕ) → 4 * k + 4 ≤ 65536 → word (zeros 65536) k ≡ 0
unfolding zeros number_of
zero_word k l = ap (λ bs. number_of (take 4 bs)) (drop-replicate (4 * k) 65536 0) ∙ ap number_of (take-replicate 4 (65536 - 4 * k) 0 (omega arith))

zero_byte : (i : ℕ) → get_or (zeros 65536) i 0 < 256
unfolding zeros
zero_byte i = ⊎_elim
    (λ (l : i < 65536). let e : get_or (replicate 65536 0) i 0 ≡ 0 = get_or-replicate {A = ℕ} 65536 i 0 0 l in omega (arith, e))
    (λ (l : 65536 ≤ i). let e : get_or (replicate 65536 0) i 0 ≡ 0 = get_or_past {X = ℕ} (replicate 65536 0) i 0 (let n = length_zeros 65536 in omega (arith, n, l)) in omega (arith, e))
    (cases_lt i 65536)

pub zero_ready : Ready (zeros 65536) false
zero_ready = record { size = length_zeros 65536; bytes = zero_byte; df_word = zero_word 13 (omega arith); flags = each }
  where
    small : (k : ℕ) → 4 * k + 4 ≤ 65536 → word (zeros 65536) k < 2
    small k l = let e = zero_word k l in omega (arith, e)

    each : (f : Flag) → word (zeros 65536) (number f) < 2
    each CF = small 8 (omega arith)
    each PF = small 9 (omega arith)
    each ZF = small 10 (omega arith)
    each SF = small 11 (omega arith)
    each OF = small 12 (omega arith)

-- ---- the original's memory

regions_high : (ss : List Segment) (rest : List Region) → AreSegments 0x08000000 ss → AllHigh 0x08000000 rest → AllHigh 0x08000000 (map region_of ss ++ rest)
regions_high [] rest h k = k
regions_high (s ∷ ss) rest h k = (h.0.low, regions_high ss rest h.1 k)

pub opening_high : (exe : Exe) (args : List (List ℕ)) (input : List ℕ) → IsOriginal exe → IsHigh 0x08000000 (opening exe args input)
opening_high exe args input a =
    let b : 0x08000000 ≤ exe.brk_start = brk exe.segments refl in
    record { regions = regions_high exe.segments _ a.segments (lit≤ tt, (b, tt)); brk = b }
  where
    brk : (ss : List Segment) → exe.segments ≡ ss → 0x08000000 ≤ exe.brk_start
    brk [] e = let h : false ≡ true = ap (λ ss. is_exec exe.entry ss) (sym e) ∙ a.entry in cc
    brk (s ∷ ss) e =
        let l = last_high 0x08000000 0 s ss (subst (AreSegments 0x08000000) e a.segments) in
        let m : end_of_last exe.segments ≡ end_of_last (s ∷ ss) = ap end_of_last e in
        let n = a.brk in
        omega (arith, l, m, n)

-- ---- the recovered file's

module _ (exe : Exe) (plan : Plan) (segment : Segment) (is_code : region_of segment ≡ plan.code) (low : plan.code.start + length plan.code.bytes ≤ 0x07000000) (opening_steps closing_steps top : ℕ) (exchange : Exchanges exe plan opening_steps closing_steps top) (args : List (List ℕ)) (input : List ℕ) (of : IsOf exe (opening exe args input)) where
  abbrev s0 : State
  s0 = opening exe args input

  abbrev t0 : State
  t0 = opening (laid_exe exe segment) args input

  beside : t0 ≡ placed (extra_of plan (zeros 65536)) (all_flags false) (all_flags true) 0x01000000 s0
  beside = ap (λ r. placed (r ∷ private_region (zeros 65536) ∷ []) (all_flags false) (all_flags true) 0x01000000 s0) is_code

  wider_at : (at : ℕ) → IsBeside plan (zeros 65536) at s0 (record t0 { eip = at })
  wider_at at = record { flags = all_flags false; marks = all_flags true; agree = record { cf = λ _. refl; pf = λ _. refl; zf = λ _. refl; sf = λ _. refl; of = λ _. refl }; same = ap (λ (u : State). record u { eip = at }) beside }

  memory : t0.regions ≡ plan.code ∷ private_region (zeros 65536) ∷ s0.regions
  memory = ap (λ (u : State). u.regions) beside

  capturable : Capturable plan s0.regions t0
  capturable = record { own = zeros 65536; mem = memory; ready = zero_ready; count = of.state.sound.regs.count; small = λ r l. of.state.sound.regs.small r; goes = refl }

  pub opens : Opening plan (IsOf exe) top s0 t0
  opens = record {
    static = of;
    goes = refl;
    own = zeros 65536;
    ready = zero_ready;
    wider = wider_at 0x01000000;
    captured = λ k cs. exchange.enters t0 s0.regions cs k capturable refl;
    jumps = λ k cs. let l = exchange.passes t0 s0.regions cs k capturable refl in record {
      steps = l.steps;
      going = l.going;
      bound = l.bound;
      shows = l.shows;
      inside = l.inside;
      there = subst (IsBeside plan (zeros 65536) (aside plan exe.entry) s0) (sym l.there) (wider_at (aside plan exe.entry));
    };
  }
