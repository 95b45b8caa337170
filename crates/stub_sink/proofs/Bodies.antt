-- The parts of a split from their marks.
use Rattle.std.proofs.Common.{◌≡◌, ℕ, ◌<◌, Bool, false, List, length, get_or, ap, ◌∙◌}
use Rattle.std.specs.Prelude.{◌&&◌, ◌||◌, not}
use Rattle.ssa_form.specs.declared.form.Line.TheVariants.{Gone}
use Rattle.ssa_form.specs.declared.form.Block.{Block}
use Rattle.ssa_form.specs.declared.form.BlockKey.{BlockKey}
use Rattle.ssa_form.specs.declared.form.Split.{Split}
use Rattle.pass_dead.specs.Names.{outs_name, has, set_of}
use Rattle.pass_dead.specs.Needed.{always, roots_of}
use Rattle.pass_dead.proofs.Steps.{needed_same, outs_same}
use Rattle.stub_sink.specs.Splits.{has_fallback, starts_of, live_at, is_load, fall_of, body_of, sunk_of, listed, split_of}
use Rattle.stub_sink.proofs.Listing.{listed_is}

-- what the body begins with
abbrev pub begins : (live : ℕ → Bool) (unknown : Bool) → Block → ℕ → Bool
begins live unknown b j = roots_of live b j || (fall_of unknown b j && is_load (get_or b.lines j Gone))

-- from its marks, one after another
pub begun : (b : Block) (live : ℕ → Bool) (unknown : Bool) (none one more all fall : List Bool) (j : ℕ) → set_of none j ≡ false → set_of one j ≡ (set_of none j || always b j) → set_of more j ≡ (set_of one j || outs_name live 0 b.outs j) → set_of all j ≡ (set_of more j || (set_of fall j && is_load (get_or b.lines j Gone))) → set_of fall j ≡ fall_of unknown b j → set_of all j ≡ begins live unknown b j
begun b live unknown none one more all fall j e f g h k =
    let a : Bool = always b j in
    let o : Bool = outs_name live 0 b.outs j in
    let l : Bool = is_load (get_or b.lines j Gone) in
    h ∙ ap (λ x. x || (set_of fall j && l)) (g ∙ ap (λ x. x || o) (f ∙ ap (λ x. x || a) e)) ∙ ap (λ x. (a || o) || (x && l)) k

body_same : (b : Block) (on more : ℕ → Bool) (unknown : Bool) → ((v : ℕ) → on v ≡ more v) → (j : ℕ) → j < length b.lines → body_of on unknown b j ≡ body_of more unknown b j
body_same b on more unknown h j l = needed_same b.lines (begins on unknown b) (begins more unknown b) (λ k m. ap (λ x. (always b k || x) || (fall_of unknown b k && is_load (get_or b.lines k Gone))) (outs_same 0 b.outs on more k (λ v t. h v))) j l

pub split_is : (b : Block) (key : BlockKey) (exits : List (ℕ × ℕ)) (known : List ℕ) (unknown : Bool) (live : ℕ) (fall body sunk : List Bool) → exits ≡ key.exits → known ≡ starts_of exits → unknown ≡ has_fallback b.exit known → ((v : ℕ) → has live v ≡ live_at exits v) → ((j : ℕ) → j < length b.lines → set_of fall j ≡ fall_of unknown b j) → length body ≡ length b.lines → ((j : ℕ) → j < length b.lines → set_of body j ≡ body_of (has live) unknown b j) → length sunk ≡ length b.lines → ((j : ℕ) → j < length b.lines → set_of sunk j ≡ (set_of fall j && not (set_of body j))) → ◌≡◌ {A = Split} (record { body = body; sunk = sunk }) (split_of b key)
split_is b key exits known unknown live fall body sunk x k u on f n h m s =
    let to : Bool = has_fallback b.exit (starts_of key.exits) in
    let alive = live_at key.exits in
    let e : unknown ≡ to = u ∙ ap (has_fallback b.exit) (k ∙ ap starts_of x) in
    let same : (v : ℕ) → has live v ≡ live_at key.exits v = λ v. on v ∙ ap (λ t. live_at t v) x in
    let bodies : (j : ℕ) → j < length b.lines → set_of body j ≡ body_of (live_at key.exits) to b j = λ j l. h j l ∙ body_same b (has live) (live_at key.exits) unknown same j l ∙ ap (λ t. body_of (live_at key.exits) t b j) e in
    let sunken : (j : ℕ) → j < length b.lines → set_of sunk j ≡ sunk_of (live_at key.exits) to b j = λ j l. s j l ∙ ap (λ t. t && not (set_of body j)) (f j l ∙ ap (λ t. fall_of t b j) e) ∙ ap (λ t. fall_of to b j && not t) (bodies j l) in
    let p = listed_is (body_of (live_at key.exits) to b) b.lines body n bodies in
    let q = listed_is (sunk_of (live_at key.exits) to b) b.lines sunk m sunken in
    let F : List Bool → Split = λ t. record { body = t; sunk = sunk } in
    let G : List Bool → Split = λ t. record { body = listed (body_of (live_at key.exits) to b) 0 b.lines; sunk = t } in
    ap F p ∙ ap G q
