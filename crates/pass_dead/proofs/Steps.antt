-- Steps of the loops over lines and outs.
use Rattle.std.proofs.Common.{◌≡◌, ℕ, suc, ◌+◌, ◌<◌, ◌^◌, Bool, true, false, List, [], ◌∷◌, ◌++◌, length, get_or, drop, sym, ap, ◌∙◌, refl, arith, append_assoc}
use Rattle.std.specs.Prelude.{◌||◌, ◌&&◌, ◌/◌, if◌then◌else◌, bit_and}
use Rattle.std.specs.Int.{bit_at}
use Rattle.std.proofs.lemmas.Bool.{eq-eqb, ne_eqb}
use Rattle.std.proofs.lemmas.Nat.Bits.{shr_and_one, bit_at_ones}
use Rattle.std.proofs.lemmas.List.{at_drop_more}
use Rattle.ssa_form.specs.declared.form.Val.{Val}
use Rattle.ssa_form.specs.declared.form.Val.TheVariants.{Num}
use Rattle.ssa_form.specs.declared.form.Line.{Line}
use Rattle.ssa_form.specs.declared.form.Line.TheVariants.{Gone}
use Rattle.pass_dead.specs.Names.{vals_of, val_names, vals_name, outs_name, set_of, has}
use Rattle.pass_dead.specs.Needed.{marked, needed_from, needed, kept_lines}
use Rattle.pass_dead.proofs.Bools.{or_or}

-- ---- sets that agree on the lines give the same
marked_same : (b c : Bool) (l : Line) (s t : ℕ → Bool) (j : ℕ) → b ≡ c → s j ≡ t j → marked b l s j ≡ marked c l t j
marked_same true true l s t j e h = ap (λ x. x || vals_name (vals_of l) j) h
marked_same false false l s t j e h = h
marked_same true false l s t j e h = absurd (cc)
marked_same false true l s t j e h = absurd (cc)

same_from : (n : ℕ) (ls : List Line) (s t : ℕ → Bool) → ((j : ℕ) → j < n + length ls → s j ≡ t j) → (j : ℕ) → j < n + length ls → needed_from n ls s j ≡ needed_from n ls t j
same_from n [] s t h j l = h j l
same_from n (x ∷ ls) s t h j l =
    let g = same_from (suc n) ls s t (λ k m. h k (omega arith)) in
    marked_same (needed_from (suc n) ls s n) (needed_from (suc n) ls t n) x _ _ j (g n (omega arith)) (g j (omega arith))

pub needed_same : (ls : List Line) (s t : ℕ → Bool) → ((j : ℕ) → j < length ls → s j ≡ t j) → (j : ℕ) → j < length ls → needed ls s j ≡ needed ls t j
needed_same ls s t h j l = same_from 0 ls s t (λ k m. h k (omega arith)) j (omega arith)

kept_from : (n : ℕ) (ls : List Line) (s t : ℕ → Bool) → ((j : ℕ) → j < n + length ls → s j ≡ t j) → kept_lines s n ls ≡ kept_lines t n ls
kept_from n [] s t h = refl
kept_from n (x ∷ ls) s t h =
    let g = kept_from (suc n) ls s t (λ k m. h k (omega arith)) in
    ap (λ (b : Bool). (if b then x else Gone) ∷ kept_lines s (suc n) ls) (h n (omega arith)) ∙ ap (λ ks. (if t n then x else Gone) ∷ ks) g

pub kept_same : (ls : List Line) (s t : ℕ → Bool) → ((j : ℕ) → j < length ls → s j ≡ t j) → kept_lines s 0 ls ≡ kept_lines t 0 ls
kept_same ls s t h = kept_from 0 ls s t (λ k m. h k (omega arith))

pub outs_same : (n : ℕ) (os : List Val) (on more : ℕ → Bool) (j : ℕ) → ((v : ℕ) → v < n + length os → on v ≡ more v) → outs_name on n os j ≡ outs_name more n os j
outs_same n [] on more j h = refl
outs_same n (o ∷ os) on more j h =
    ap (λ b. (b && val_names o j) || outs_name on (suc n) os j) (h n (omega arith)) ∙ ap (λ b. (more n && val_names o j) || b) (outs_same (suc n) os on more j (λ v l. h v (omega arith)))

-- ---- one line of the sweep
pub sweep_more : (ls : List Line) (s : ℕ → Bool) (i k : ℕ) (b : Bool) (marks new : List Bool) → i < length ls → k ≡ i + 1 → ((j : ℕ) → j < length ls → set_of marks j ≡ needed_from k (drop k ls) s j) → set_of marks i ≡ b → ((j : ℕ) → j < length ls → set_of new j ≡ marked b (get_or ls i Gone) (set_of marks) j) → (j : ℕ) → j < length ls → set_of new j ≡ needed_from i (drop i ls) s j
sweep_more ls s i k b marks new l y h e g j m =
    let z : i + 1 ≡ suc i = omega arith in
    let later : ℕ → Bool = needed_from (suc i) (drop (i + 1) ls) s in
    let q : (j : ℕ) → j < length ls → set_of marks j ≡ later j = λ j m. h j m ∙ ap (λ n. needed_from n (drop n ls) s j) y ∙ ap (λ n. needed_from n (drop (i + 1) ls) s j) z in
    let at : needed_from i (drop i ls) s j ≡ marked (later i) (get_or ls i Gone) later j = at_drop_more (λ xs. needed_from i xs s j) ls i Gone l in
    g j m ∙ marked_same b (later i) (get_or ls i Gone) (set_of marks) later j (sym e ∙ q i l) (q j m) ∙ sym at

-- ---- one out more
pub outs_more : (os : List Val) (on : ℕ → Bool) (v : ℕ) (j : ℕ) (d : Val) → v < length os → outs_name on v (drop v os) j ≡ ((on v && val_names (get_or os v d) j) || outs_name on (v + 1) (drop (v + 1) os) j)
outs_more os on v j d l =
    let z : suc v ≡ v + 1 = omega arith in
    at_drop_more (λ xs. outs_name on v xs j) os v d l ∙ ap (λ n. (on v && val_names (get_or os v d) j) || outs_name on n (drop (v + 1) os) j) z

-- ---- one kept line more
pub kept_more : (keep : ℕ → Bool) (ls all : List Line) (i : ℕ) → i < length ls → (all ++ (if keep i then get_or ls i Gone else Gone) ∷ []) ++ kept_lines keep (i + 1) (drop (i + 1) ls) ≡ all ++ kept_lines keep i (drop i ls)
kept_more keep ls all i l =
    let z : i + 1 ≡ suc i = omega arith in
    let at : kept_lines keep i (drop i ls) ≡ (if keep i then get_or ls i Gone else Gone) ∷ kept_lines keep (suc i) (drop (i + 1) ls) = at_drop_more (λ xs. kept_lines keep i xs) ls i Gone l in
    append_assoc all ((if keep i then get_or ls i Gone else Gone) ∷ []) _ ∙ ap (λ n. all ++ (if keep i then get_or ls i Gone else Gone) ∷ kept_lines keep n (drop (i + 1) ls)) z ∙ ap (λ x. all ++ x) (sym at)

-- ---- an out whose register is in the set, and one whose is not
pub out_then : (os : List Val) (set v j : ℕ) (d : Val) (old more new : List Bool) (g : Bool) → v < length os → bit_and (set / 2 ^ v) 1 ≡ 1 → set_of more j ≡ (set_of old j || val_names (get_or os v d) j) → new ≡ more → (set_of old j || outs_name (has set) v (drop v os) j) ≡ g → (set_of new j || outs_name (has set) (v + 1) (drop (v + 1) os) j) ≡ g
out_then os set v j d old more new g l on m e h =
    let rest : Bool = outs_name (has set) (v + 1) (drop (v + 1) os) j in
    let in' : has set v ≡ true = eq-eqb (bit_at set v) 1 (sym (shr_and_one set v) ∙ on) in
    ap (λ x. set_of x j || rest) e ∙ ap (λ b. b || rest) m ∙ or_or (set_of old j) (val_names (get_or os v d) j) rest ∙
    ap (λ b. set_of old j || ((b && val_names (get_or os v d) j) || rest)) (sym in') ∙ ap (λ b. set_of old j || b) (sym (outs_more os (has set) v j d l)) ∙ h

pub out_else : (os : List Val) (set v j : ℕ) (old new : List Bool) (g : Bool) → v < length os → (bit_and (set / 2 ^ v) 1 ≡ 1 → ⊥) → new ≡ old → (set_of old j || outs_name (has set) v (drop v os) j) ≡ g → (set_of new j || outs_name (has set) (v + 1) (drop (v + 1) os) j) ≡ g
out_else os set v j old new g l off e h =
    let rest : Bool = outs_name (has set) (v + 1) (drop (v + 1) os) j in
    let out : has set v ≡ false = ne_eqb (bit_at set v) 1 (λ z. off (shr_and_one set v ∙ z)) in
    ap (λ x. set_of x j || rest) e ∙
    ap (λ b. set_of old j || ((b && val_names (get_or os v (Num 0)) j) || rest)) (sym out) ∙ ap (λ b. set_of old j || b) (sym (outs_more os (has set) v j (Num 0) l)) ∙ h

-- ---- the set of all registers
pub all_on : (v : ℕ) → v < 14 → has 0x3FFF v ≡ true
all_on v l = eq-eqb (bit_at 0x3FFF v) 1 (bit_at_ones 14 v l)
