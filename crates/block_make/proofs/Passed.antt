-- What becomes code of a lifted block: it spells out words, and keeps what the block does.
use Rattle.std.proofs.Common.{◌≡◌, ℕ, zero, suc, ◌^◌, ◌<◌, ◌≤◌, Bool, true, false, List, [], ◌∷◌, ◌++◌, length, map, get_or, Option, Some, None, refl, ap, ◌∙◌, subst, arith}
use Rattle.std.specs.Prelude.{if◌then◌else◌}
use Rattle.elf_read.specs.declared.exe.Exe.{Exe}
use Rattle.ssa_form.specs.declared.form.Val.{Val}
use Rattle.ssa_form.specs.declared.form.Val.TheVariants.{Param, Line as Of, Num}
use Rattle.ssa_form.specs.declared.form.Line.{Line}
use Rattle.ssa_form.specs.declared.form.Line.TheVariants.{Bin, One, Select, Load, Store, Gone}
use Rattle.ssa_form.specs.declared.form.Exit.{Exit}
use Rattle.ssa_form.specs.declared.form.Exit.TheVariants.{Jump, Cond, Way, Island}
use Rattle.ssa_form.specs.declared.form.Block.{Block}
use Rattle.ssa_form.specs.Agree.{every}
use Rattle.ssa_form.specs.Checked.{checked}
use Rattle.ssa_form.specs.Value.{Env, value, line_next}
use Rattle.ssa_form.specs.Same.{IsWord, OnWords, AllOnWords, SpellsWords, GivesSame, KeepsMeaning}
use Rattle.pass_const.specs.Rule.{rule, ReadsWords, EachHolds}
use Rattle.pass_copy.specs.Folded.{replaced, line_replaced, exit_replaced, kept, stand, folded_lines, stands, folded, SameKind, FoldKeeps, FoldIsChecked, FoldHasForm}
use Rattle.pass_copy.proofs.Words.{bin_fits, one_fits, select_fits}
use Rattle.pass_copy.proofs.Checking.{same_kind}
use Rattle.pass_dead.specs.Needed.{needed, roots_of, kept_lines, pruned, PruneKeeps, PruneIsChecked, PruneHasForm}
use Rattle.lift_flow.specs.LiftedBlock.{lift_of}
use Rattle.block_make.specs.Choices.{ready}
use Rattle.block_make.specs.Prepared.{SpellsFew}
use Rattle.block_make.specs.Laws.{IsLifted, ReadyKeeps}

-- ---- the name that takes a line's place spells out a word

abbrev nothing : Env
nothing = record { params = λ v. 0; lines = λ j. 0; mem = [] }

val_small : (v : Val) → IsWord v → value nothing v < 2 ^ 32
val_small (Param v) w = omega arith
val_small (Of j) w = omega arith
val_small (Num n) w = w

reads : (l : Line) → OnWords l → ReadsWords nothing l
reads (Bin o a b) w = (val_small a w.0, val_small b w.1)
reads (One o a) w = val_small a w
reads (Select c a b) w = (val_small c w.0, val_small a w.1, val_small b w.2)
reads (Load k at) w = tt
reads (Store k at a) w = tt
reads Gone w = tt

line_small : (l : Line) (v : Val) → OnWords l → rule l ≡ Some v → (line_next 0 l nothing).lines 0 < 2 ^ 32
line_small (Bin o a b) v w q = bin_fits o (value nothing a) (value nothing b) (val_small a w.0) (val_small b w.1)
line_small (One o a) v w q = one_fits o (value nothing a)
line_small (Select c a b) v w q = select_fits (value nothing c) (value nothing a) (value nothing b) (val_small a w.1) (val_small b w.2)
line_small (Load k at) v w q = let e : ◌≡◌ {A = Option Val} None (Some v) = q in absurd (cc)
line_small (Store k at a) v w q = let e : ◌≡◌ {A = Option Val} None (Some v) = q in absurd (cc)
line_small Gone v w q = let e : ◌≡◌ {A = Option Val} None (Some v) = q in absurd (cc)

rule_word : EachHolds → (l : Line) (v : Val) → OnWords l → rule l ≡ Some v → IsWord v
rule_word holds l (Param x) w q = tt
rule_word holds l (Of j) w q = tt
rule_word holds l (Num n) w q =
    let same : (line_next 0 l nothing).lines 0 ≡ n = ap (λ (x : Env). x.lines 0) (holds l nothing 0 (Num n) (reads l w) q) in
    subst (λ k. k < 2 ^ 32) same (line_small l (Num n) w q)

-- ---- folding

abbrev Words : List Val → Type 0
Words [] = Unit {0}
Words (v ∷ vs) = IsWord v × Words vs

words_at : (vs : List Val) (j : ℕ) → Words vs → IsWord (get_or vs j (Num 0))
words_at [] j h = omega arith
words_at (v ∷ vs) zero h = h.0
words_at (v ∷ vs) (suc j) h = words_at vs j h.1

words_more : (vs : List Val) (v : Val) → Words vs → IsWord v → Words (vs ++ v ∷ [])
words_more [] v h w = (w, tt)
words_more (x ∷ vs) v h w = (h.0, words_more vs v h.1 w)

replaced_word : (t : List Val) (v : Val) → Words t → IsWord v → IsWord (replaced t v)
replaced_word t (Param x) h w = tt
replaced_word t (Of j) h w = words_at t j h
replaced_word t (Num n) h w = w

line_word : (t : List Val) (l : Line) → Words t → OnWords l → OnWords (line_replaced t l)
line_word t (Bin o a b) h w = (replaced_word t a h w.0, replaced_word t b h w.1)
line_word t (One o a) h w = replaced_word t a h w
line_word t (Select c a b) h w = (replaced_word t c h w.0, replaced_word t a h w.1, replaced_word t b h w.2)
line_word t (Load k at) h w = replaced_word t at h w
line_word t (Store k at a) h w = (replaced_word t at h w.0, replaced_word t a h w.1)
line_word t Gone h w = tt

kept_word : (o : Option Val) (l : Line) → OnWords l → OnWords (kept o l)
kept_word None l w = w
kept_word (Some v) l w = tt

stand_word : (o : Option Val) (i : ℕ) → ((v : Val) → o ≡ Some v → IsWord v) → IsWord (stand o i)
stand_word None i f = tt
stand_word (Some v) i f = f v refl

folded_words : EachHolds → (t : List Val) (ls : List Line) → Words t → AllOnWords ls → AllOnWords (folded_lines t ls) × Words (stands t ls)
folded_words holds t [] h w = (tt, h)
folded_words holds t (l ∷ ls) h w =
    let m = line_replaced t l in
    let k = line_word t l h w.0 in
    let s = stand_word (rule m) (length t) (λ v q. rule_word holds m v k q) in
    let r = folded_words holds (t ++ stand (rule m) (length t) ∷ []) ls (words_more t (stand (rule m) (length t)) h s) w.1 in
    ((kept_word (rule m) m k, r.0), r.1)

outs_word : (t : List Val) (vs : List Val) (v : ℕ) → Words t → ((k : ℕ) → IsWord (get_or vs k (Num 0))) → IsWord (get_or (map (replaced t) vs) v (Num 0))
outs_word t [] v h w = omega arith
outs_word t (x ∷ vs) zero h w = replaced_word t x h (w 0)
outs_word t (x ∷ vs) (suc v) h w = outs_word t vs v h (λ k. w (suc k))

exit_word : (t : List Val) (x : Exit) → Words t → SpellsFew x → SpellsFew (exit_replaced t x)
exit_word t (Jump to) h w = tt
exit_word t (Cond test taken next) h w = replaced_word t test h w
exit_word t (Way v) h w = replaced_word t v h w
exit_word t (Island len) h w = w

-- ---- pruning

gone_or : (b : Bool) (l : Line) → OnWords l → OnWords (if b then l else Gone)
gone_or true l w = w
gone_or false l w = tt

kept_words : (keep : ℕ → Bool) (n : ℕ) (ls : List Line) → AllOnWords ls → AllOnWords (kept_lines keep n ls)
kept_words keep n [] w = tt
kept_words keep n (l ∷ ls) w = (gone_or (keep n) l w.0, kept_words keep (suc n) ls w.1)

-- ---- both

keeps_both : (a b c : Block) → KeepsMeaning a b → KeepsMeaning b c → KeepsMeaning a c
keeps_both a b c first second p m small bytes allowed =
    let g : GivesSame a b p m = first p m small bytes allowed in
    let h : GivesSame b c p m = second p m small bytes g.allowed in
    record { allowed = h.allowed; outs = λ v l. h.outs v l ∙ g.outs v l; memory = h.memory ∙ g.memory; exit = h.exit ∙ g.exit }

pub record Passes : Type 0 where
  pub holds : EachHolds
  pub fold_keeps : FoldKeeps
  pub fold_checked : FoldIsChecked
  pub fold_form : FoldHasForm
  pub prune_keeps : PruneKeeps
  pub prune_checked : PruneIsChecked
  pub prune_form : PruneHasForm

module _ (laws : Passes) (b : Block) where
  pub passed_checked : checked b ≡ true → checked (pruned (folded b)) ≡ true
  passed_checked c = laws.prune_checked (folded b) (laws.fold_checked b c)

  pub passed_words : SpellsWords b → SpellsWords (pruned (folded b))
  passed_words w =
      let r = folded_words laws.holds [] b.lines tt w.lines in
      record {
        lines = kept_words (needed (folded b).lines (roots_of every (folded b))) 0 (folded b).lines r.0;
        outs = λ v. outs_word (stands [] b.lines) b.outs v r.1 w.outs;
      }

  pub passed_few : length b.lines ≤ 2048 → length (pruned (folded b)).lines ≤ 2048
  passed_few l = let f = laws.prune_form (folded b) in let g = (laws.fold_form b).0 in omega (arith, l, f, g)

  passed_exit : SpellsWords b → SpellsFew b.exit → SpellsFew (pruned (folded b)).exit
  passed_exit w x = exit_word (stands [] b.lines) b.exit (folded_words laws.holds [] b.lines tt w.lines).1 x

  passed_lifted : IsLifted b → IsLifted (pruned (folded b))
  passed_lifted h = record { whole = passed_checked h.whole; words = passed_words h.words; few = passed_few h.few; exit = passed_exit h.words h.exit }

  passed_keeps : IsLifted b → KeepsMeaning b (pruned (folded b))
  passed_keeps h = keeps_both b (folded b) (pruned (folded b)) (laws.fold_keeps b h.whole h.words.lines) (laws.prune_keeps (folded b) (laws.fold_checked b h.whole))

pub ready_kind : (exe : Exe) (start : ℕ) → SameKind (lift_of exe start).exit (ready exe start).exit
unfolding ready
ready_kind exe start = same_kind (stands [] (lift_of exe start).lines) (lift_of exe start).exit

pub ready_keeps : Passes → ReadyKeeps
unfolding ready
ready_keeps laws = record {
  lifted = λ exe start h. passed_lifted laws (lift_of exe start) h;
  kind = λ exe start. same_kind (stands [] (lift_of exe start).lines) (lift_of exe start).exit;
  same = λ exe start h. passed_keeps laws (lift_of exe start) h;
}
