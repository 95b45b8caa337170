-- What calls of streams do, one after another.
use Rattle.std.proofs.Common.{◌≡◌, ℕ, ◌+◌, List, [], ◌∷◌, ◌++◌, length, take, drop, Option, Some, None, IfSome, refl, sym, ◌∙◌, ap, subst, arith, append_assoc, length-append, option_map, IsTrue}
use Rattle.std.proofs.Math.Seq.{drop-append-add}
use Rattle.std.proofs.lemmas.List.{append-nil}
use Rattle.br_word.specs.State.{State}
use Rattle.br_outside.specs.Outside.{StreamView}
use Rattle.br_outside.specs.Streams.{Streams, Steady, Fails, Tells, WasGiven, Leaves, Gains}
use Rattle.guest_sys.specs.declared.answers.SysError.{SysError}
use Rattle.guest_sys.specs.declared.answers.SysError.TheVariants.{Input, Out, Report, Memory}
use Rattle.guest_sys.specs.Calls.{Passes, GainsFront, FailsAt}
use Rattle.guest_run.specs.Guest.{PartGiven, PartGained, RunFailsAt, AllSteady, OneFails}
use Rattle.guest_run.proofs.EarlierBytes.{shown}

-- ---- no call

steady_same : (v : StreamView) → Steady v v
steady_same v = record { calm = refl; same = refl }

left_same : (o : Option (List ℕ)) (left : List ℕ) → IfSome o (λ told. told ≡ left) → IfSome o (λ told. o ≡ Some left)
left_same None left h = tt
left_same (Some told) left h = ap Some h

pub leaves_same : (v : StreamView) (left : List ℕ) → Tells left v → Leaves left v v
leaves_same v left h = record { bytes = left_same v.bytes left h; steady = steady_same v }

given_none : (o : Option (List ℕ)) → o ≡ option_map (λ written. written ++ []) o
given_none None = refl
given_none (Some w) = ap Some (sym (append-nil w))

pub gains_none : (v : StreamView) (more : List ℕ) → more ≡ [] → Gains more v v
gains_none v more e =
    let P : List ℕ → Type 0 = λ t. v.bytes ≡ option_map (λ written. written ++ t) v.bytes in
    record { bytes = subst P (sym e) (given_none v.bytes); steady = steady_same v; idle = λ _. refl }

-- what a source had, where it tells
abbrev pub had : Option (List ℕ) → List ℕ
had None = []
had (Some left) = left

pub told_had : (o : Option (List ℕ)) → IfSome o (λ told. told ≡ had o)
told_had None = tt
told_had (Some left) = refl

-- ---- calls that were done

steady_then : (a b c : StreamView) → Steady a b → Steady b c → Steady a c
steady_then a b c x y = record { calm = y.calm ∙ x.calm; same = y.same ∙ x.same }

fails_then : (a b c : StreamView) → Steady a b → Fails b c → Fails a c
fails_then a b c x y = record {
  calm = y.calm ∙ x.calm;
  later = omega (arith, x.same, y.later);
  rose = omega (arith, x.same, y.rose);
  uncalm = λ h. y.uncalm (subst IsTrue (sym x.calm) h);
}

pub left_then : (o p : Option (List ℕ)) (c : StreamView) (t : List ℕ) (rest : List ℕ) → IfSome o (λ left. p ≡ Some t) → IfSome p (λ left. c.bytes ≡ Some rest) → IfSome o (λ left. c.bytes ≡ Some rest)
left_then None p c t rest h k = tt
left_then (Some left) p c t rest h k = let P : Option (List ℕ) → Type 0 = λ p. IfSome p (λ left. c.bytes ≡ Some rest) in subst P h k

pub leaves_then : (a b c : StreamView) (t rest : List ℕ) → Leaves t a b → Leaves rest b c → Leaves rest a c
leaves_then a b c t rest x y = record { bytes = left_then a.bytes b.bytes c t rest x.bytes y.bytes; steady = steady_then a b c x.steady y.steady }

given_twice : (o : Option (List ℕ)) (x y : List ℕ) → option_map (λ w. w ++ y) (option_map (λ w. w ++ x) o) ≡ option_map (λ w. w ++ (x ++ y)) o
given_twice None x y = refl
given_twice (Some w) x y = ap Some (append_assoc w x y)

pub given_then : (a b c : StreamView) (x y : List ℕ) → WasGiven x a b → WasGiven y b c → WasGiven (x ++ y) a c
given_then a b c x y p q = q ∙ (ap (λ o. option_map (λ w. w ++ y) o) p ∙ given_twice a.bytes x y)

nothing_first : (x y : List ℕ) → x ++ y ≡ [] → x ≡ []
nothing_first [] y e = refl
nothing_first (v ∷ x) y e = cc

nothing_second : (x y : List ℕ) → x ++ y ≡ [] → y ≡ []
nothing_second [] y e = e
nothing_second (v ∷ x) y e = cc

pub gains_then : (a b c : StreamView) (x y : List ℕ) → Gains x a b → Gains y b c → Gains (x ++ y) a c
gains_then a b c x y p q = record {
  bytes = given_then a b c x y p.bytes q.bytes;
  steady = steady_then a b c p.steady q.steady;
  idle = λ e. q.idle (nothing_second x y e) ∙ p.idle (nothing_first x y e);
}

pub passes_then : (t r : State) (m k : ℕ) (a b c : Streams) → Passes t m a b → Passes r k b c → Passes (shown t.out t.err r) k a c
passes_then t r m k a b c p q = record {
  input = leaves_then a.input b.input c.input _ _ p.input q.input;
  out = gains_then a.out b.out c.out _ _ p.out q.out;
  err = gains_then a.err b.err c.err _ _ p.err q.err;
}

pub steady_of : (t : State) (m : ℕ) (a b : Streams) → Passes t m a b → AllSteady a b
steady_of t m a b p = record { input = p.input.steady; out = p.out.steady; err = p.err.steady }

pub all_then : (a b c : Streams) → AllSteady a b → AllSteady b c → AllSteady a c
all_then a b c x y = record {
  input = steady_then a.input b.input c.input x.input y.input;
  out = steady_then a.out b.out c.out x.out y.out;
  err = steady_then a.err b.err c.err x.err y.err;
}

pub all_same : (a : Streams) → AllSteady a a
all_same a = record { input = steady_same a.input; out = steady_same a.out; err = steady_same a.err }

pub same_passes : (t : State) (a : Streams) → Tells t.input a.input → t.out ≡ [] → t.err ≡ [] → Passes t 0 a a
same_passes t a told out err = record { input = leaves_same a.input t.input told; out = gains_none a.out t.out out; err = gains_none a.err t.err err }

-- ---- a call that failed after others

part_then : (a b c : StreamView) (t u v : List ℕ) → WasGiven t a b → PartGiven u v b c → PartGiven (t ++ u) (t ++ v) a c
part_then a b c t u v p q =
    let P : List ℕ → Type 0 = λ x. WasGiven x a c in
    let rest : drop (length (t ++ u)) (t ++ v) ≡ drop (length u) v = ap (λ n. drop n (t ++ v)) (length-append t u) ∙ drop-append-add t v (length u) in
    let whole : (t ++ u) ++ take q.more (drop (length (t ++ u)) (t ++ v)) ≡ t ++ (u ++ take q.more (drop (length u) v)) =
    ap (λ x. (t ++ u) ++ take q.more x) rest ∙ append_assoc t u (take q.more (drop (length u) v)) in
    record { more = q.more; given = subst P (sym whole) (given_then a b c t (u ++ take q.more (drop (length u) v)) p q.given) }

gained_then : (a b c : StreamView) (t u v : List ℕ) → Gains t a b → PartGained u v b c → PartGained (t ++ u) (t ++ v) a c
gained_then a b c t u v p q = record { part = part_then a b c t u v p.bytes q.part; steady = steady_then a b c p.steady q.steady }

pub fails_later : (e : SysError) (t u v : State) (a b c : Streams) → Passes t 0 a b → RunFailsAt e u v b c → RunFailsAt e (shown t.out t.err u) (shown t.out t.err v) a c
fails_later Input t u v a b c p f = ((f.0.0, f.0.1, left_then a.input.bytes b.input.bytes c.input _ _ p.input.bytes f.0.2), fails_then a.input b.input c.input p.input.steady f.1, gains_then a.out b.out c.out _ _ p.out f.2, gains_then a.err b.err c.err _ _ p.err f.3)
fails_later Out t u v a b c p f = (part_then a.out b.out c.out t.out u.out v.out p.out.bytes f.0, fails_then a.out b.out c.out p.out.steady f.1, leaves_then a.input b.input c.input _ _ p.input f.2, gains_then a.err b.err c.err _ _ p.err f.3)
fails_later Report t u v a b c p f = (part_then a.err b.err c.err t.err u.err v.err p.err.bytes f.0, fails_then a.err b.err c.err p.err.steady f.1, leaves_then a.input b.input c.input _ _ p.input f.2, gains_then a.out b.out c.out _ _ p.out f.3)
fails_later Memory t u v a b c p f = ((f.0.0, f.0.1, leaves_then a.input b.input c.input _ _ p.input f.0.2), gained_then a.out b.out c.out _ _ _ p.out f.1, gained_then a.err b.err c.err _ _ _ p.err f.2)

pub one_then : (x : SysError) (a b c : Streams) → AllSteady a b → OneFails x b c → OneFails x a c
one_then Input a b c s f = (fails_then a.input b.input c.input s.input f.0, steady_then a.out b.out c.out s.out f.1, steady_then a.err b.err c.err s.err f.2)
one_then Out a b c s f = (fails_then a.out b.out c.out s.out f.0, steady_then a.input b.input c.input s.input f.1, steady_then a.err b.err c.err s.err f.2)
one_then Report a b c s f = (fails_then a.err b.err c.err s.err f.0, steady_then a.input b.input c.input s.input f.1, steady_then a.out b.out c.out s.out f.2)
one_then Memory a b c s f = all_then a b c s f

-- ---- a call that failed first

steady_is : (x y : StreamView) → y ≡ x → Steady x y
steady_is x y e = let P : StreamView → Type 0 = λ y. Steady x y in subst P (sym e) (steady_same x)

gains_is : (x y : StreamView) (m : List ℕ) → m ≡ [] → y ≡ x → Gains m x y
gains_is x y m none e = let P : StreamView → Type 0 = λ y. Gains m x y in subst P (sym e) (gains_none x m none)

leaves_is : (x y : StreamView) (l : List ℕ) → Tells l x → y ≡ x → Leaves l x y
leaves_is x y l told e = let P : StreamView → Type 0 = λ y. Leaves l x y in subst P (sym e) (leaves_same x l told)

-- a front part, where nothing was written before
part_is : (x y : StreamView) (m all : List ℕ) (n : ℕ) → m ≡ [] → WasGiven (take n all) x y → PartGiven m all x y
part_is x y m all n none given = let P : List ℕ → Type 0 = λ m. PartGiven m all x y in subst P (sym none) (record { more = n; given = given })

gained_is : (x y : StreamView) (m all : List ℕ) → m ≡ [] → GainsFront all x y → PartGained m all x y
gained_is x y m all none u = record { part = part_is x y m all u.written none u.given; steady = u.steady }

pub fails_now : (e : SysError) (u v : State) (a c : Streams) → Tells u.input a.input → u.out ≡ [] → u.err ≡ [] → FailsAt e u v a c → RunFailsAt e u v a c
fails_now Input u v a c told out err f = ((f.taken, f.few, f.left), f.fails, gains_is a.out c.out u.out out f.out, gains_is a.err c.err u.err err f.err)
fails_now Out u v a c told out err f = (part_is a.out c.out u.out v.out f.0.written out f.0.given, f.0.fails, leaves_is a.input c.input u.input told f.1, gains_is a.err c.err u.err err f.2)
fails_now Report u v a c told out err f = (part_is a.err c.err u.err v.err f.0.written err f.0.given, f.0.fails, leaves_is a.input c.input u.input told f.1, gains_is a.out c.out u.out out f.2)
fails_now Memory u v a c told out err f = ((f.taken, f.few, f.input), gained_is a.out c.out u.out v.out out f.out, gained_is a.err c.err u.err v.err err f.err)

pub one_now : (e : SysError) (u v : State) (a c : Streams) → FailsAt e u v a c → OneFails e a c
one_now Input u v a c f = (f.fails, steady_is a.out c.out f.out, steady_is a.err c.err f.err)
one_now Out u v a c f = (f.0.fails, steady_is a.input c.input f.1, steady_is a.err c.err f.2)
one_now Report u v a c f = (f.0.fails, steady_is a.input c.input f.1, steady_is a.out c.out f.2)
one_now Memory u v a c f = record { input = f.input.steady; out = f.out.steady; err = f.err.steady }
