-- What is known of each lifted block.
use Rattle.std.proofs.Common.{◌≡◌, ℕ, zero, suc, ◌+◌, ◌-◌, ◌*◌, ◌/◌, ◌%◌, ◌<◌, ◌≤◌, ◌==◌, Bool, true, false, ◌&&◌, if◌then◌else◌, List, [], ◌∷◌, length, map, take, drop, get_or, Option, Some, None, refl, sym, ap, ◌∙◌, subst, arith, ⊎_elim}
use Rattle.std.specs.Prelude.{All, IsTrue}
use Rattle.std.proofs.lemmas.Bool.{cases_Bool}
use Rattle.std.proofs.lemmas.List.Elements.{All-drop, All-tail}
use Rattle.br_word.specs.Memory.{AreBytes, HoldBytes}
use Rattle.elf_read.specs.declared.exe.Segment.{Segment}
use Rattle.elf_read.specs.declared.exe.Exe.{Exe}
use Rattle.elf_read.specs.Elf.{in_segment, is_exec}
use Rattle.elf_read.specs.Code.{segment_bytes, code_at}
use Rattle.elf_read.specs.Regions.{region_of}
use Rattle.ia_inst.specs.declared.inst.Rm.TheVariants.{Reg, Mem}
use Rattle.ia_inst.specs.declared.inst.Inst.{Inst}
use Rattle.ia_inst.specs.declared.inst.Inst.TheVariants.{Jcc, JmpRm, CallRm, Ret}
use Rattle.ia_inst.specs.Canonical.{valid_of}
use Rattle.ia_inst.specs.Instructions.{decode_of}
use Rattle.ia_inst.specs.Meaning.{wrap}
use Rattle.ia_inst.specs.Step.{NoCode, There, found_from}
use Rattle.block_cut.specs.declared.ends.End.{End}
use Rattle.block_cut.specs.declared.ends.End.TheVariants.{Transfer, Island, BeforeIsland, Unreadable, Full}
use Rattle.block_cut.specs.Places.{Placed, found_at, inst_found}
use Rattle.block_cut.specs.Blocks.{StandFrom, EndsSo, IsBlock, size_of, block_of, EachHasOneBlock}
use Rattle.ssa_form.specs.declared.form.Val.{Val}
use Rattle.ssa_form.specs.declared.form.Val.TheVariants.{Num}
use Rattle.ssa_form.specs.declared.form.BinOp.TheVariants.{Xor}
use Rattle.ssa_form.specs.declared.form.Block.{Block}
use Rattle.ssa_form.specs.Checked.{checked}
use Rattle.ssa_form.specs.Same.{IsWord, SpellsWords}
use Rattle.lift_alu.specs.Lifted.{Leaving, Onward, Either, Away, leaving_of, exit_by, draft_of, row_of, lifted}
use Rattle.lift_alu.specs.Steps.{Expr, Op, Lit, Draft, emit, row_step, row_steps, unnamed}
use Rattle.lift_alu.specs.Table.{even_expr, condition_expr}
use Rattle.block_make.specs.Prepared.{SpellsFew}
use Rattle.lift_alu.specs.Means.{EachStaysChecked, EachHasFew, EachSpellsWords}
use Rattle.lift_flow.specs.LiftedBlock.{params, blank, lifted_all, lifted_to, lift_of}
use Rattle.sim_runs.specs.Recovered.{is_island_end}
use Rattle.sim_runs.specs.WholeBlock.{IsWay}
use Rattle.image_laws.specs.Serves.{HaveBytes, IsLifted, EachIsLifted}

-- ---- what stands at an address of an executable

pub code_bytes : (at : ℕ) (ss : List Segment) → HoldBytes (map region_of ss) → AreBytes (code_at at ss)
code_bytes at [] h = λ k d l. absurd (omega (arith, l))
code_bytes at (s ∷ ss) h = ⊎_elim
    (λ (e : (s.perms.exec && in_segment at s) ≡ true).
    subst AreBytes (sym (ap (λ b. if b then drop (at - s.start) (segment_bytes s) else code_at at ss) e)) (All-drop (λ b. b < 256) (at - s.start) (segment_bytes s) (h 0 (region_of s) (omega arith))))
    (λ (e : (s.perms.exec && in_segment at s) ≡ false).
    subst AreBytes (sym (ap (λ b. if b then drop (at - s.start) (segment_bytes s) else code_at at ss) e)) (code_bytes at ss (All-tail (λ r. AreBytes r.bytes) (region_of s) (map region_of ss) h)))
    (cases_Bool (s.perms.exec && in_segment at s))

again : (o : Option (Inst × ℕ)) → inst_found (found_from o) ≡ o
again None = refl
again (Some j) = refl

pub found_code : (exe : Exe) (at : ℕ) (i : Inst) (n : ℕ) → found_at exe at ≡ There i n → ◌≡◌ {A = Option (Inst × ℕ)} (decode_of (code_at at exe.segments)) (Some (i, n))
unfolding found_at
found_code exe at i n e = decide (is_exec at exe.segments) e
  where
    decide : (b : Bool) → (if b then found_from (decode_of (code_at at exe.segments)) else NoCode) ≡ There i n → ◌≡◌ {A = Option (Inst × ℕ)} (decode_of (code_at at exe.segments)) (Some (i, n))
    decide true e = sym (again (decode_of (code_at at exe.segments))) ∙ ap inst_found e
    decide false e = let h : ◌≡◌ {A = Option (Inst × ℕ)} None (Some (i, n)) = ap inst_found e in absurd (cc)

-- ---- a block without lines

params_words : (v : ℕ) → IsWord (get_or params v (Num 0))
params_words zero = tt
params_words (suc zero) = tt
params_words (suc (suc zero)) = tt
params_words (suc (suc (suc zero))) = tt
params_words (suc (suc (suc (suc zero)))) = tt
params_words (suc (suc (suc (suc (suc zero))))) = tt
params_words (suc (suc (suc (suc (suc (suc zero)))))) = tt
params_words (suc (suc (suc (suc (suc (suc (suc zero))))))) = tt
params_words (suc (suc (suc (suc (suc (suc (suc (suc zero)))))))) = tt
params_words (suc (suc (suc (suc (suc (suc (suc (suc (suc zero))))))))) = tt
params_words (suc (suc (suc (suc (suc (suc (suc (suc (suc (suc zero)))))))))) = tt
params_words (suc (suc (suc (suc (suc (suc (suc (suc (suc (suc (suc zero))))))))))) = tt
params_words (suc (suc (suc (suc (suc (suc (suc (suc (suc (suc (suc (suc zero)))))))))))) = tt
params_words (suc (suc (suc (suc (suc (suc (suc (suc (suc (suc (suc (suc (suc zero))))))))))))) = tt
params_words (suc (suc (suc (suc (suc (suc (suc (suc (suc (suc (suc (suc (suc (suc v)))))))))))))) = omega arith

-- ---- one instruction behind the other

by_leaving : (l : Leaving) (vals : ℕ → Val) → IsWay (exit_by l vals)
by_leaving (Onward to) vals = tt
by_leaving (Either taken next) vals = tt
by_leaving Away vals = tt

lifted_way : (i : Inst) (at n : ℕ) (b : Block) → IsWay (lifted i at n b).exit
unfolding lifted
lifted_way i at n b = by_leaving (leaving_of i (wrap (at + n))) (row_steps (row_of i (wrap (at + n))) (unnamed (draft_of b))).vals

all_way : (is : List Placed) (b : Block) → IsWay b.exit → IsWay (lifted_all is b).exit
all_way [] b h = h
all_way (p ∷ ps) b h = all_way ps (lifted p.inst p.at p.size b) (lifted_way p.inst p.at p.size b)

-- ---- the test or the target of an exit is a word

abbrev IsEmitted : Draft → Expr → Type 0
IsEmitted d e = IsWord (emit (λ k. Num 0) e d).val

choose : (d : Draft) (b : Bool) (x y : Expr) → IsEmitted d x → IsEmitted d y → IsEmitted d (if b then x else y)
choose d true x y h k = h
choose d false x y h k = k

taken_word : (n : ℕ) (vs : List Val) → ((v : ℕ) → IsWord (get_or vs v (Num 0))) → (r : ℕ) → IsWord (get_or (take n vs) r (Num 0))
taken_word zero vs h r = omega arith
taken_word (suc n) [] h r = omega arith
taken_word (suc n) (v ∷ vs) h zero = h 0
taken_word (suc n) (v ∷ vs) h (suc r) = taken_word n vs (λ k. h (suc k)) r

module _ (b : Block) (words : SpellsWords b) where
  even_word : (c : ℕ) → IsEmitted (draft_of b) (even_expr c)
  even_word c =
      choose (draft_of b) (c == 0) _ _ (words.outs 12)
      (choose (draft_of b) (c == 1) _ _ (words.outs 8)
      (choose (draft_of b) (c == 2) _ _ (words.outs 10)
      (choose (draft_of b) (c == 3) _ _ tt
      (choose (draft_of b) (c == 4) _ _ (words.outs 11)
      (choose (draft_of b) (c == 5) _ _ (words.outs 9)
      (choose (draft_of b) (c == 6) _ _ tt tt))))))

  condition_word : (c : ℕ) → IsEmitted (draft_of b) (condition_expr c)
  condition_word c = choose (draft_of b) (c % 2 == 1) (Op Xor (even_expr (c / 2)) (Lit 1)) (even_expr (c / 2)) tt (even_word (c / 2))

  lifted_few : (i : Inst) (at n : ℕ) → SpellsFew (lifted i at n b).exit
  unfolding lifted row_step
  lifted_few (Jcc c rel) at n = condition_word c
  lifted_few (JmpRm (Reg r)) at n = taken_word 8 b.outs words.outs r
  lifted_few (JmpRm (Mem a)) at n = tt
  lifted_few (CallRm (Reg r)) at n = taken_word 8 b.outs words.outs r
  lifted_few (CallRm (Mem a)) at n = tt
  lifted_few (Ret pop) at n = tt
  lifted_few _ at n = tt

abbrev ReadsValid : Type 0
ReadsValid = (bs : List ℕ) (i : Inst) (n : ℕ) → All (λ b. b < 256) bs → decode_of bs ≡ Some (i, n) → IsTrue (valid_of i)

abbrev pub EncodingLength : Type 0
EncodingLength = (bs : List ℕ) (i : Inst) (n : ℕ) → decode_of bs ≡ Some (i, n) → (1 ≤ n) × (n ≤ 15) × (n ≤ length bs)

pub record Lifts : Type 0 where
  pub one : EachHasOneBlock
  pub long : EncodingLength
  pub valid : ReadsValid
  pub whole : EachStaysChecked
  pub few : EachHasFew
  pub words : EachSpellsWords

module _ (laws : Lifts) (exe : Exe) (bytes : HaveBytes exe) where
  all_whole : (is : List Placed) (b : Block) → checked b ≡ true → checked (lifted_all is b) ≡ true
  all_whole [] b h = h
  all_whole (p ∷ ps) b h = all_whole ps (lifted p.inst p.at p.size b) (laws.whole p.inst p.at p.size b h)

  valid_here : (at : ℕ) (i : Inst) (n : ℕ) → found_at exe at ≡ There i n → IsTrue (valid_of i)
  valid_here at i n f = laws.valid (code_at at exe.segments) i n (code_bytes at exe.segments bytes) (found_code exe at i n f)

  all_few : (at : ℕ) (is : List Placed) (b : Block) → StandFrom exe at is → length (lifted_all is b).lines ≤ length b.lines + 32 * length is
  all_few at [] b s = omega arith
  all_few at (p ∷ ps) b s =
      let q = all_few (at + p.size) ps (lifted p.inst p.at p.size b) s.2 in
      let r = laws.few p.inst p.at p.size b in
      omega (arith, q, r)

  all_words : (at : ℕ) (is : List Placed) (b : Block) → StandFrom exe at is → SpellsWords b → SpellsWords (lifted_all is b)
  all_words at [] b s h = h
  all_words at (p ∷ ps) b s h = all_words (at + p.size) ps (lifted p.inst p.at p.size b) s.2 (laws.words p.inst p.at p.size b (valid_here at p.inst p.size s.1) h)

  all_exit : (at : ℕ) (is : List Placed) (b : Block) → StandFrom exe at is → SpellsWords b → SpellsFew b.exit → SpellsFew (lifted_all is b).exit
  all_exit at [] b s h e = e
  all_exit at (p ∷ ps) b s h e = all_exit (at + p.size) ps (lifted p.inst p.at p.size b) s.2 (laws.words p.inst p.at p.size b (valid_here at p.inst p.size s.1) h) (lifted_few b h p.inst p.at p.size)

  one_short : (at : ℕ) (is : List Placed) → StandFrom exe at is → length is ≡ 1 → size_of is < 256
  one_short at [] s l = omega arith
  one_short at (p ∷ []) s l =
      let q = laws.long (code_at at exe.segments) p.inst p.size (found_code exe at p.inst p.size s.1) in
      let z : p.size ≡ size_of (p ∷ []) = omega arith in
      omega (arith, q.1, z)
  one_short at (p ∷ q ∷ qs) s l = absurd (omega (arith, l))

  short_by : (at next : ℕ) (is : List Placed) (e : End) → StandFrom exe at is → EndsSo exe next is e → is_island_end e ≡ true → size_of is < 256
  short_by at next is Transfer s h i = let z : false ≡ true = i in absurd (cc)
  short_by at next is Island s h i = one_short at is s h.1
  short_by at next is BeforeIsland s h i = let z : false ≡ true = i in absurd (cc)
  short_by at next is Unreadable s h i = let z : false ≡ true = i in absurd (cc)
  short_by at next is Full s h i = let z : false ≡ true = i in absurd (cc)

  few_by : (next : ℕ) (is : List Placed) (e : End) → EndsSo exe next is e → length is ≤ 64
  few_by next is Transfer h = h.1
  few_by next is Island h = omega (arith, h.1)
  few_by next is BeforeIsland h = omega (arith, h.2)
  few_by next is Unreadable h = omega (arith, h.1)
  few_by next is Full h = omega (arith, h.1)

  record IsGood (native : Bool) (b : Block) : Type 0 where
    whole : checked b ≡ true
    words : SpellsWords b
    few : length b.lines ≤ 2048
    exit : SpellsFew b.exit
    way : native ≡ false → IsWay b.exit

  plain : (is : List Placed) (start : ℕ) → StandFrom exe start is → length is ≤ 64 → IsGood false (lifted_all is (blank start))
  plain is start s l =
      let q = all_few start is (blank start) s in
      record {
        whole = all_whole is (blank start) refl;
        words = all_words start is (blank start) s (record { lines = tt; outs = params_words });
        few = omega (arith, q, l);
        exit = all_exit start is (blank start) s (record { lines = tt; outs = params_words }) tt;
        way = λ e. all_way is (blank start) tt;
      }

  good : (e : End) (is : List Placed) (start : ℕ) → StandFrom exe start is → length is ≤ 64 → (is_island_end e ≡ true → size_of is < 256) → IsGood (is_island_end e) (lifted_to e is start)
  good Transfer is start s l short = plain is start s l
  good Island is start s l short = record { whole = refl; words = record { lines = tt; outs = params_words }; few = omega arith; exit = short refl; way = λ e. let h : true ≡ false = e in absurd (cc) }
  good BeforeIsland is start s l short = plain is start s l
  good Unreadable is start s l short = plain is start s l
  good Full is start s l short = plain is start s l

  pub each_lifted : (x : ℕ) → IsLifted exe x
  unfolding lift_of
  each_lifted x =
      let b = block_of exe x in
      let is : IsBlock exe x b = (laws.one exe x b).1 refl in
      let g = good b.end b.insts x is.stand (few_by (x + size_of b.insts) b.insts b.end is.ends) (short_by x (x + size_of b.insts) b.insts b.end is.stand is.ends) in
      record { whole = g.whole; words = g.words; few = g.few; exit = g.exit; way = g.way }

pub lifted_blocks : Lifts → EachIsLifted
lifted_blocks laws exe x bytes = each_lifted laws exe bytes x
