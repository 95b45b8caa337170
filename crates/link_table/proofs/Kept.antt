-- The circles keep their lists.
use Rattle.std.proofs.Common.{◌≡◌, ◌≢◌, ℕ, zero, suc, ◌+◌, ◌<◌, ◌≤◌, cond, eqb, List, [], ◌∷◌, ◌++◌, length, get_or, set, refl, ap, sym, None, Some, ◌∙◌, subst, arith, length-set, inl, inr}
use Rattle.std.proofs.lemmas.Bool.{cases_eq, eq-eqb, ne_eqb, cases_Bool}
use Rattle.std.proofs.lemmas.List.{get_or_push, get_or_append_left, length_push, get_or_default}
use Rattle.link_table.specs.Circles.{all_without, put_last, times, times_in, size, Leads, AreCircles, walk, lists_of, first_of, Family, AreTwins, Keeps}
use Rattle.link_table.proofs.Counts.{times_in-without_same, times_in-without_other, size-without, times_in-put_last, size-put_last, times_self, times_else, times-append}
use Rattle.link_table.proofs.Turns.{next_out, prev_out, next_in, prev_in, both_out, leads_same, leads_other, twins_in, twins_out, length_out, length_in, out_at_x, out_at_other, in_at_other, times_head, twins_sym}

-- an element is in the list at least once
pub times_get : (xs : List ℕ) (i : ℕ) → i < length xs → 0 < times (get_or xs i 0) xs
times_get [] i h = absurd (omega arith)
times_get (y ∷ ys) zero h = rw (eq-eqb y y refl) (omega arith)
times_get (y ∷ ys) (suc i) h = let r : 0 < times (get_or ys i 0) ys = times_get ys i (omega arith) in omega (arith, r)

pub first_once : (h : ℕ) (hs : List ℕ) → times h (h ∷ hs) ≡ 1 + times h hs
first_once h hs = rw (eq-eqb h h refl)

-- taking out
pub circles_out : (next prev : List ℕ) (x : ℕ) → AreTwins next prev → x < length next → (heads : List ℕ) (lists : List (List ℕ)) → ((i : ℕ) → 0 < times i heads → i < length next) → times x heads ≡ 0 → AreCircles next heads lists → AreCircles (next_out next prev x) heads (all_without x lists)
circles_out next prev x t x_in [] [] r n c = tt
circles_out next prev x t x_in [] (xs ∷ xss) r n c = c
circles_out next prev x t x_in (h ∷ hs) [] r n c = c
circles_out next prev x t x_in (h ∷ hs) (xs ∷ xss) r n c =
    let k : (h ≢ x) × (times x hs ≡ 0) = times_head x h hs n in
    let h_in : h < length next = r h (let e : times h (h ∷ hs) ≡ 1 + times h hs = first_once h hs in omega (arith, e)) in
    ((both_out next prev x h t x_in k.0 xs h h_in c.0).0 k.0, circles_out next prev x t x_in hs xss (λ i p. r i (omega (arith, p))) k.1 c.1)

-- putting in, where the circle is another's
circles_other : (next prev : List ℕ) (h x : ℕ) → AreTwins next prev → h < length next → x < length next → get_or next x 0 ≡ x → h ≢ x → (heads : List ℕ) (lists : List (List ℕ)) → ((i : ℕ) → 0 < times i heads → i < length next) → times x heads ≡ 0 → times x heads + times_in x lists ≡ 0 → times h heads + times_in h lists ≡ 0 → AreCircles next heads lists → AreCircles (next_in next prev h x) heads lists
circles_other next prev h x t h_in x_in al ne [] [] r n xo ho c = tt
circles_other next prev h x t h_in x_in al ne [] (xs ∷ xss) r n xo ho c = c
circles_other next prev h x t h_in x_in al ne (b ∷ bs) [] r n xo ho c = c
circles_other next prev h x t h_in x_in al ne (b ∷ bs) (xs ∷ xss) r n xo ho c =
    let kx : (b ≢ x) × (times x bs ≡ 0) = times_head x b bs n in
    let h0 : times h (b ∷ bs) ≡ 0 = omega (arith, ho) in
    let kh : (b ≢ h) × (times h bs ≡ 0) = times_head h b bs h0 in
    let b_in : b < length next = r b (let e : times b (b ∷ bs) ≡ 1 + times b bs = first_once b bs in omega (arith, e)) in (
      leads_other next prev h x t h_in x_in al ne b kh.0 xs b b_in kx.0 (omega (arith, ho)) (omega (arith, xo)) c.0,
      circles_other next prev h x t h_in x_in al ne bs xss (λ i p. r i (omega (arith, p))) kx.1 (omega (arith, xo)) (omega (arith, ho)) c.1,
    )

-- putting in, at the circle of the head at k
pub circles_in : (next prev : List ℕ) (h x : ℕ) → AreTwins next prev → h < length next → x < length next → get_or next x 0 ≡ x → h ≢ x → (heads : List ℕ) (lists : List (List ℕ)) (k : ℕ) → k < length heads → get_or heads k 0 ≡ h → ((i : ℕ) → 0 < times i heads → i < length next) → times x heads + times_in x lists ≡ 0 → times h heads + times_in h lists ≤ 1 → AreCircles next heads lists → AreCircles (next_in next prev h x) heads (put_last lists k x)
circles_in next prev h x t h_in x_in al ne [] lists k l g r xo ho c = absurd (omega arith)
circles_in next prev h x t h_in x_in al ne (b ∷ bs) [] k l g r xo ho c = absurd c
circles_in next prev h x t h_in x_in al ne (b ∷ bs) (xs ∷ xss) zero l g r xo ho c =
    let fresh : times h (b ∷ bs) ≡ 1 + times h bs = rw (eq-eqb b h g) in
    let x0 : times x (b ∷ bs) ≡ 0 = omega (arith, xo) in
    let kx : (b ≢ x) × (times x bs ≡ 0) = times_head x b bs x0 in
    let same : Leads (next_in next prev h x) h (xs ++ x ∷ []) h = leads_same next prev h x t h_in x_in al ne xs h h_in ne (omega (arith, ho, fresh)) (omega (arith, xo)) (subst (λ v. Leads next v xs v) g c.0) in (
      subst (λ v. Leads (next_in next prev h x) v (xs ++ x ∷ []) v) (sym g) same,
      circles_other next prev h x t h_in x_in al ne bs xss (λ i p. r i (omega (arith, p))) kx.1 (omega (arith, xo)) (omega (arith, ho, fresh)) c.1,
    )
circles_in next prev h x t h_in x_in al ne (b ∷ bs) (xs ∷ xss) (suc k) l g r xo ho c =
    let there : 0 < times h bs = subst (λ v. 0 < times v bs) g (times_get bs k (omega arith)) in
    let x0 : times x (b ∷ bs) ≡ 0 = omega (arith, xo) in
    let kx : (b ≢ x) × (times x bs ≡ 0) = times_head x b bs x0 in
    let nb : b ≢ h = λ e. (let f : times h (b ∷ bs) ≡ 1 + times h bs = rw (eq-eqb b h e) in omega (arith, f, there, ho)) in
    let b_in : b < length next = r b (let e : times b (b ∷ bs) ≡ 1 + times b bs = first_once b bs in omega (arith, e)) in (
      leads_other next prev h x t h_in x_in al ne b nb xs b b_in kx.0 (omega (arith, ho, there)) (omega (arith, xo)) c.0,
      circles_in next prev h x t h_in x_in al ne bs xss k (omega arith) g (λ i p. r i (omega (arith, p))) (omega (arith, xo)) (omega (arith, ho)) c.1,
    )

-- the walk finds the list
pub walk_finds : (next : List ℕ) (b : ℕ) (xs : List ℕ) (a n : ℕ) → Leads next a xs b → times b xs ≡ 0 → length xs ≤ n → walk next b n (get_or next a 0) ≡ xs
walk_finds next b [] a zero l o s = refl
walk_finds next b [] a (suc n) l o s = rw (eq-eqb (get_or next a 0) b l)
walk_finds next b (y ∷ ys) a zero l o s = absurd (omega arith)
walk_finds next b (y ∷ ys) a (suc n) l o s =
    let k : (y ≢ b) × (times b ys ≡ 0) = times_head b y ys o in
    rw (l.0, ne_eqb y b k.0) (ap (λ t. y ∷ t) (walk_finds next b ys y n l.1 k.1 (omega arith)))

lists_found : (next : List ℕ) (heads : List ℕ) (lists : List (List ℕ)) → AreCircles next heads lists → ((i : ℕ) → times i heads + times_in i lists ≤ 1) → size lists ≤ length next → lists_of next heads ≡ lists
lists_found next [] [] c o s = refl
lists_found next [] (xs ∷ xss) c o s = absurd c
lists_found next (h ∷ hs) [] c o s = absurd c
lists_found next (h ∷ hs) (xs ∷ xss) c o s =
    let e : times h (h ∷ hs) ≡ 1 + times h hs = first_once h hs in
    let here : walk next h (length next) (get_or next h 0) ≡ xs = walk_finds next h xs h (length next) c.0 (let w : times h (h ∷ hs) + times_in h (xs ∷ xss) ≤ 1 = o h in omega (arith, e, w)) (omega (arith, s)) in
    let there : lists_of next hs ≡ xss = lists_found next hs xss c.1 (λ i. (let w : times i (h ∷ hs) + times_in i (xs ∷ xss) ≤ 1 = o i in omega (arith, w))) (omega (arith, s)) in
    rw (here, there)

pub Keeps-lists : {next prev heads : List ℕ} {lists : List (List ℕ)} → Keeps next prev heads lists → lists_of next heads ≡ lists
Keeps-lists {next} {prev} {heads} {lists} k = lists_found next heads lists k.circles k.once k.few

pub Keeps-out : (next prev heads : List ℕ) (lists : List (List ℕ)) (x : ℕ) → Keeps next prev heads lists → x < length next → times x heads ≡ 0 → Keeps (next_out next prev x) (prev_out next prev x) heads (all_without x lists)
Keeps-out next prev heads lists x k x_in n =
    let ln : length (next_out next prev x) ≡ length next = length_out next prev x k.twins x_in in
    let gone : times_in x (all_without x lists) ≡ 0 = times_in-without_same x lists in
    let less : (i : ℕ) → times_in i (all_without x lists) ≤ times_in i lists = λ i. elim (cases_eq i x) [ inl e ↦ subst (λ v. times_in v (all_without x lists) ≤ times_in v lists) (sym e) (omega (arith, gone)) | inr m ↦ omega (arith, times_in-without_other x i lists m) ] in
    record {
      twins = twins_out next prev x k.twins x_in;
      circles = circles_out next prev x k.twins x_in heads lists (λ i p. k.in_range i (omega (arith, p))) n k.circles;
      in_range = λ i p. (let l : times_in i (all_without x lists) ≤ times_in i lists = less i in let r : i < length next = k.in_range i (omega (arith, p, l)) in omega (arith, r, ln));
      once = λ i. (let l : times_in i (all_without x lists) ≤ times_in i lists = less i in let o : times i heads + times_in i lists ≤ 1 = k.once i in omega (arith, l, o));
      alone = λ i z r. elim (cases_eq i x) [
        | inl e ↦ ap (λ v. get_or (next_out next prev x) v 0) e ∙ out_at_x next prev x x_in ∙ sym e
        | inr m ↦ let al : get_or next i 0 ≡ i = k.alone i (let o : times_in i (all_without x lists) ≡ times_in i lists = times_in-without_other x i lists m in omega (arith, o, z)) (omega (arith, r, ln)) in
            out_at_other next prev x i m (λ q. m (sym al ∙ ap (λ v. get_or next v 0) q ∙ (k.twins.back x x_in).1)) ∙ al
      ];
      few = (let l : size (all_without x lists) + times_in x lists ≡ size lists = size-without x lists in let f : size lists ≤ length next = k.few in omega (arith, l, f, ln));
    }

pub Keeps-in : (next prev heads : List ℕ) (lists : List (List ℕ)) (k x : ℕ) → Keeps next prev heads lists → x < length next → times x heads + times_in x lists ≡ 0 → k < length heads → length lists ≡ length heads → size lists < length next → Keeps (next_in next prev (get_or heads k 0) x) (prev_in next prev (get_or heads k 0) x) heads (put_last lists k x)
Keeps-in next prev heads lists k x kp x_in z l le room =
    let there : 0 < times (get_or heads k 0) heads = times_get heads k l in
    let h_in : get_or heads k 0 < length next = kp.in_range (get_or heads k 0) (omega (arith, there)) in
    let al : get_or next x 0 ≡ x = kp.alone x z x_in in
    let ne : get_or heads k 0 ≢ x = λ e. (let w : 0 < times x heads = subst (λ v. 0 < times v heads) e there in omega (arith, w, z)) in
    let ln : length (next_in next prev (get_or heads k 0) x) ≡ length next = length_in next prev (get_or heads k 0) x kp.twins h_in x_in al ne in
    let counts : (i : ℕ) → times_in i (put_last lists k x) ≡ times_in i lists + times i (x ∷ []) = λ i. times_in-put_last i lists k x (omega (arith, l, le)) in
    let self : times x (x ∷ []) ≡ 1 = times_self x in
    record {
      twins = twins_in next prev (get_or heads k 0) x kp.twins h_in x_in al ne;
      circles = circles_in next prev (get_or heads k 0) x kp.twins h_in x_in al ne heads lists k l refl (λ i p. kp.in_range i (omega (arith, p))) z (kp.once (get_or heads k 0)) kp.circles;
      in_range = λ i p. elim (cases_eq i x) [
        | inl e ↦ omega (arith, e, x_in, ln)
        | inr m ↦ let c : times_in i (put_last lists k x) ≡ times_in i lists + times i (x ∷ []) = counts i in let o : times i (x ∷ []) ≡ 0 = times_else i x m in
            let r : i < length next = kp.in_range i (omega (arith, p, c, o)) in omega (arith, r, ln)
      ];
      once = λ i. elim (cases_eq i x) [
        | inl e ↦ subst (λ v. times v heads + times_in v (put_last lists k x) ≤ 1) (sym e) (let c : times_in x (put_last lists k x) ≡ times_in x lists + times x (x ∷ []) = counts x in omega (arith, c, self, z))
        | inr m ↦ let c : times_in i (put_last lists k x) ≡ times_in i lists + times i (x ∷ []) = counts i in let o : times i (x ∷ []) ≡ 0 = times_else i x m in
            let w : times i heads + times_in i lists ≤ 1 = kp.once i in omega (arith, w, c, o)
      ];
      alone = λ i q r. elim (cases_eq i x) [
        | inl e ↦ absurd (let c : times_in x (put_last lists k x) ≡ times_in x lists + times x (x ∷ []) = counts x in
            let q' : times x heads + times_in x (put_last lists k x) ≡ 0 = subst (λ v. times v heads + times_in v (put_last lists k x) ≡ 0) e q in omega (arith, c, self, q'))
        | inr m ↦ let c : times_in i (put_last lists k x) ≡ times_in i lists + times i (x ∷ []) = counts i in let o : times i (x ∷ []) ≡ 0 = times_else i x m in
            let ali : get_or next i 0 ≡ i = kp.alone i (omega (arith, q, c, o)) (omega (arith, r, ln)) in
            let nl : i ≢ get_or prev (get_or heads k 0) 0 = λ e. (let same : i ≡ get_or heads k 0 = sym ali ∙ ap (λ v. get_or next v 0) e ∙ (kp.twins.back (get_or heads k 0) h_in).1 in
            let w : 0 < times i heads = subst (λ v. 0 < times v heads) (sym same) there in omega (arith, w, q)) in
            in_at_other next prev (get_or heads k 0) x i m nl ∙ ali
      ];
      few = (let s : size (put_last lists k x) ≡ size lists + 1 = size-put_last lists k x (omega (arith, l, le)) in omega (arith, s, ln, room));
    }

-- what is read below the end stays
grown : (xs : List ℕ) (n i : ℕ) → i < length xs → get_or (xs ++ n ∷ []) i 0 ≡ get_or xs i 0
grown xs n i h = get_or_append_left xs (n ∷ []) 0 i h

leads_grow : (next prev : List ℕ) (n b : ℕ) → AreTwins next prev → (xs : List ℕ) (a : ℕ) → a < length next → Leads next a xs b → Leads (next ++ n ∷ []) a xs b
leads_grow next prev n b t [] a r l = grown next n a r ∙ l
leads_grow next prev n b t (y ∷ ys) a r l =
    let e : get_or next a 0 ≡ y = l.0 in
    let y_in : y < length next = let k : get_or next a 0 < length next = (t.forth a r).0 in omega (arith, k, e) in
    (grown next n a r ∙ e, leads_grow next prev n b t ys y y_in l.1)

circles_grow : (next prev : List ℕ) (n : ℕ) → AreTwins next prev → (heads : List ℕ) (lists : List (List ℕ)) → ((i : ℕ) → 0 < times i heads → i < length next) → AreCircles next heads lists → AreCircles (next ++ n ∷ []) heads lists
circles_grow next prev n t [] [] r c = tt
circles_grow next prev n t [] (xs ∷ xss) r c = c
circles_grow next prev n t (h ∷ hs) [] r c = c
circles_grow next prev n t (h ∷ hs) (xs ∷ xss) r c =
    let h_in : h < length next = r h (let e : times h (h ∷ hs) ≡ 1 + times h hs = first_once h hs in omega (arith, e)) in
    (leads_grow next prev n h t xs h h_in c.0, circles_grow next prev n t hs xss (λ i p. r i (omega (arith, p))) c.1)

-- the last of two twins that grew
grown_last : (xs : List ℕ) (n : ℕ) → length xs ≡ n → get_or (xs ++ n ∷ []) n 0 ≡ n
grown_last xs n e = get_or_push xs n 0 n e

twins_half : (next prev : List ℕ) (n : ℕ) → length next ≡ n → AreTwins next prev → (i : ℕ) → i < length next + 1 → (get_or (next ++ n ∷ []) i 0 < length next + 1) × (get_or (prev ++ n ∷ []) (get_or (next ++ n ∷ []) i 0) 0 ≡ i)
twins_half next prev n e t i r = let s : length prev ≡ length next = t.same in elim (cases_eq i n) [
  | inl q ↦ let w : get_or (next ++ n ∷ []) i 0 ≡ n = ap (λ v. get_or (next ++ n ∷ []) v 0) q ∙ grown_last next n e in
      (omega (arith, w, e), ap (λ v. get_or (prev ++ n ∷ []) v 0) w ∙ grown_last prev n (s ∙ e) ∙ sym q)
  | inr m ↦ let i_in : i < length next = omega (arith, r, m, e) in
      let w : get_or (next ++ n ∷ []) i 0 ≡ get_or next i 0 = grown next n i i_in in
      let f : get_or next i 0 < length next = (t.forth i i_in).0 in
      (omega (arith, w, f), ap (λ v. get_or (prev ++ n ∷ []) v 0) w ∙ grown prev n (get_or next i 0) (omega (arith, f, s)) ∙ (t.forth i i_in).1)
]

-- one more slot, alone
pub Keeps-grow : (next prev heads : List ℕ) (lists : List (List ℕ)) (n : ℕ) → length next ≡ n → Keeps next prev heads lists → Keeps (next ++ n ∷ []) (prev ++ n ∷ []) heads lists
Keeps-grow next prev heads lists n e k =
    let s : length prev ≡ length next = k.twins.same in
    let ln : length (next ++ n ∷ []) ≡ length next + 1 = length_push next n in
    let lp : length (prev ++ n ∷ []) ≡ length prev + 1 = length_push prev n in
    record {
      twins = record {
        same = omega (arith, ln, lp, s);
        forth = λ i r. (let f : (get_or (next ++ n ∷ []) i 0 < length next + 1) × (get_or (prev ++ n ∷ []) (get_or (next ++ n ∷ []) i 0) 0 ≡ i) = twins_half next prev n e k.twins i (omega (arith, r, ln)) in (omega (arith, f.0, ln), f.1));
        back = λ i r. (let f : (get_or (prev ++ n ∷ []) i 0 < length prev + 1) × (get_or (next ++ n ∷ []) (get_or (prev ++ n ∷ []) i 0) 0 ≡ i) = twins_half prev next n (s ∙ e) (twins_sym next prev k.twins) i (omega (arith, r, ln, s)) in (omega (arith, f.0, ln, s), f.1));
      };
      circles = circles_grow next prev n k.twins heads lists (λ i p. k.in_range i (omega (arith, p))) k.circles;
      in_range = λ i p. (let r : i < length next = k.in_range i p in omega (arith, r, ln));
      once = k.once;
      alone = λ i z r. elim (cases_eq i n) [
        | inl q ↦ ap (λ v. get_or (next ++ n ∷ []) v 0) q ∙ grown_last next n e ∙ sym q
        | inr m ↦ let i_in : i < length next = omega (arith, r, m, e, ln) in grown next n i i_in ∙ k.alone i z i_in
      ];
      few = (let f : size lists ≤ length next = k.few in omega (arith, f, ln));
    }

circles_list : (next : List ℕ) (n : ℕ) → get_or next n 0 ≡ n → (heads : List ℕ) (lists : List (List ℕ)) → AreCircles next heads lists → AreCircles next (heads ++ n ∷ []) (lists ++ [] ∷ [])
circles_list next n e [] [] c = (e, tt)
circles_list next n e [] (xs ∷ xss) c = absurd c
circles_list next n e (h ∷ hs) [] c = absurd c
circles_list next n e (h ∷ hs) (xs ∷ xss) c = (c.0, circles_list next n e hs xss c.1)

pub times_in-push_nil : (i : ℕ) (lists : List (List ℕ)) → times_in i (lists ++ [] ∷ []) ≡ times_in i lists
times_in-push_nil i [] = refl
times_in-push_nil i (xs ∷ xss) = ap (λ k. times i xs + k) (times_in-push_nil i xss)

pub size-push_nil : (lists : List (List ℕ)) → size (lists ++ [] ∷ []) ≡ size lists
size-push_nil [] = refl
size-push_nil (xs ∷ xss) = ap (λ k. length xs + k) (size-push_nil xss)

-- one more list, with the head n, which is alone
pub Keeps-list : (next prev heads : List ℕ) (lists : List (List ℕ)) (n : ℕ) → n < length next → times n heads + times_in n lists ≡ 0 → Keeps next prev heads lists → Keeps next prev (heads ++ n ∷ []) (lists ++ [] ∷ [])
Keeps-list next prev heads lists n r z k =
    let c : (i : ℕ) → times i (heads ++ n ∷ []) ≡ times i heads + times i (n ∷ []) = λ i. times-append i heads (n ∷ []) in
    let d : (i : ℕ) → times_in i (lists ++ [] ∷ []) ≡ times_in i lists = λ i. times_in-push_nil i lists in
    record {
      twins = k.twins;
      circles = circles_list next n (k.alone n z r) heads lists k.circles;
      in_range = λ i p. elim (cases_eq i n) [
        | inl q ↦ omega (arith, q, r)
        | inr m ↦ k.in_range i (let a : times i (heads ++ n ∷ []) ≡ times i heads + times i (n ∷ []) = c i in let b : times_in i (lists ++ [] ∷ []) ≡ times_in i lists = d i in let o : times i (n ∷ []) ≡ 0 = times_else i n m in omega (arith, p, a, b, o))
      ];
      once = λ i. elim (cases_eq i n) [
        | inl q ↦ subst (λ v. times v (heads ++ n ∷ []) + times_in v (lists ++ [] ∷ []) ≤ 1) (sym q) (let a : times n (heads ++ n ∷ []) ≡ times n heads + times n (n ∷ []) = c n in let b : times_in n (lists ++ [] ∷ []) ≡ times_in n lists = d n in let o : times n (n ∷ []) ≡ 1 = times_self n in omega (arith, a, b, o, z))
        | inr m ↦ let a : times i (heads ++ n ∷ []) ≡ times i heads + times i (n ∷ []) = c i in let b : times_in i (lists ++ [] ∷ []) ≡ times_in i lists = d i in let o : times i (n ∷ []) ≡ 0 = times_else i n m in let w : times i heads + times_in i lists ≤ 1 = k.once i in omega (arith, a, b, o, w)
      ];
      alone = λ i q l. k.alone i (let a : times i (heads ++ n ∷ []) ≡ times i heads + times i (n ∷ []) = c i in let b : times_in i (lists ++ [] ∷ []) ≡ times_in i lists = d i in omega (arith, a, b, q)) l;
      few = (let s : size (lists ++ [] ∷ []) ≡ size lists = size-push_nil lists in let f : size lists ≤ length next = k.few in omega (arith, s, f));
    }

pub Keeps-none : Keeps [] [] [] []
Keeps-none = record {
  twins = record { same = refl; forth = λ i h. absurd (omega arith); back = λ i h. absurd (omega arith) };
  circles = tt;
  in_range = λ i p. absurd (omega arith);
  once = λ i. omega arith;
  alone = λ i z r. absurd (omega arith);
  few = omega arith;
}

-- the lists are those that the walks find
pub settled : {next prev heads : List ℕ} {lists : List (List ℕ)} → Keeps next prev heads lists → Keeps next prev heads (lists_of next heads)
settled {next} {prev} {heads} {lists} k = subst (λ l. Keeps next prev heads l) (sym (Keeps-lists k)) k

pub length-lists_of : (next heads : List ℕ) → length (lists_of next heads) ≡ length heads
length-lists_of next [] = refl
length-lists_of next (h ∷ hs) = ap suc (length-lists_of next hs)

-- families with equal parts
pub same_family : {s s' : ℕ} {h h' : List ℕ} {l l' : List (List ℕ)} → s ≡ s' → h ≡ h' → l ≡ l' → ◌≡◌ {A = Family} (record { slots = s; heads = h; lists = l }) (record { slots = s'; heads = h'; lists = l' })
same_family p q r = λ i. record { slots = p i; heads = q i; lists = r i }

pub out_all : (n p h : List ℕ) (x : ℕ) (n' p' : List ℕ) → Keeps n p h (lists_of n h) → x < length n → times x h ≡ 0 → n' ≡ next_out n p x → p' ≡ prev_out n p x → Keeps n' p' h (all_without x (lists_of n h)) × (length n' ≡ length n)
out_all n p h x n' p' k l z e f =
    rw (e, f) (Keeps-out n p h (lists_of n h) x k l z, length_out n p x k.twins l)

pub in_all : (n p h : List ℕ) (k x : ℕ) (n' p' : List ℕ) → Keeps n p h (lists_of n h) → x < length n → times x h + times_in x (lists_of n h) ≡ 0 → k < length h → size (lists_of n h) < length n → n' ≡ next_in n p (get_or h k 0) x → p' ≡ prev_in n p (get_or h k 0) x → Keeps n' p' h (put_last (lists_of n h) k x) × (length n' ≡ length n)
in_all n p h k x n' p' kp l z kl room e f =
    rw (e, f) (Keeps-in n p h (lists_of n h) k x kp l z kl (length-lists_of n h) room, length-set (set n (get_or p (get_or h k 0) 0) x) x (get_or h k 0) ∙ length-set n (get_or p (get_or h k 0) 0) x)

pub grow_all : (n p h : List ℕ) (n' p' : List ℕ) (s : ℕ) → Keeps n p h (lists_of n h) → length n ≡ s → n' ≡ n ++ s ∷ [] → p' ≡ p ++ s ∷ [] → Keeps n' p' h (lists_of n h) × (length n' ≡ length n + 1)
grow_all n p h n' p' s k l e f = rw (e, f) (Keeps-grow n p h (lists_of n h) s l k, length_push n s)

pub list_all : (n p h h' : List ℕ) (s : ℕ) → Keeps n p h (lists_of n h) → s < length n → times s h + times_in s (lists_of n h) ≡ 0 → h' ≡ h ++ s ∷ [] → Keeps n p h' (lists_of n h ++ [] ∷ [])
list_all n p h h' s k l z e = rw e (Keeps-list n p h (lists_of n h) s l z k)

-- a head, and what it leads to, are slots
pub head_in : (n p h : List ℕ) (k : ℕ) → Keeps n p h (lists_of n h) → k < length h → get_or h k 0 < length n
head_in n p h k kp l = kp.in_range (get_or h k 0) (let t : 0 < times (get_or h k 0) h = times_get h k l in omega (arith, t))

-- the list of a head, by its place
pub list_at : (n h : List ℕ) (k : ℕ) → k < length h → get_or (lists_of n h) k [] ≡ walk n (get_or h k 0) (length n) (get_or n (get_or h k 0) 0)
list_at n [] k l = absurd (omega arith)
list_at n (b ∷ bs) zero l = refl
list_at n (b ∷ bs) (suc k) l = list_at n bs k (omega arith)

first_walk : (n : List ℕ) (b m a : ℕ) → 0 < m → first_of (walk n b m a) ≡ cond (eqb a b) None (Some a)
first_walk n b zero a h = absurd (omega arith)
first_walk n b (suc m) a h = elim (cases_Bool (eqb a b)) [ inl t ↦ rw t refl | inr f ↦ rw f refl ]

pub first_is : (n h : List ℕ) (k : ℕ) → k < length h → 0 < length n → first_of (get_or (lists_of n h) k []) ≡ cond (eqb (get_or n (get_or h k 0) 0) (get_or h k 0)) None (Some (get_or n (get_or h k 0) 0))
first_is n h k l p = ap first_of (list_at n h k l) ∙ first_walk n (get_or h k 0) (length n) (get_or n (get_or h k 0) 0) p

-- the fields' view, and what a clause says of a place in it
abbrev pub shown : List ℕ → List ℕ → Family
shown n h = record { slots = length n; heads = h; lists = lists_of n h }

pub placed : (n h : List ℕ) (f : Family) (k : ℕ) → shown n h ≡ f → k < length f.lists → k < length h
placed n h f k e l = let w : k < length (lists_of n h) = subst (λ (g : Family). k < length g.lists) (sym e) l in let q : length (lists_of n h) ≡ length h = length-lists_of n h in omega (arith, w, q)

-- a head that was read
pub head_read : (n p h : List ℕ) (f : Family) (k v : ℕ) → shown n h ≡ f → k < length f.lists → v ≡ get_or h k v → (v ≡ get_or h k 0) × (Keeps n p h (lists_of n h) → v < length n)
head_read n p h f k v e l r =
    let kl : k < length h = placed n h f k e l in
    let s : v ≡ get_or h k 0 = r ∙ get_or_default h k v 0 kl in
    (s, λ kp. subst (λ (w : ℕ). w < length n) (sym s) (head_in n p h k kp kl))

-- what the first of a list is, from the two reads
pub first_read : (n p h : List ℕ) (f : Family) (k v a : ℕ) → shown n h ≡ f → k < length f.lists → v ≡ get_or h k v → Keeps n p h (lists_of n h) → a ≡ get_or n v a → first_of (get_or f.lists k []) ≡ cond (eqb a v) None (Some a)
first_read n p h f k v a e l r kp ra =
    let kl : k < length h = placed n h f k e l in
    let s : v ≡ get_or h k 0 = r ∙ get_or_default h k v 0 kl in
    let v_in : v < length n = (head_read n p h f k v e l r).1 kp in
    let t : a ≡ get_or n v 0 = ra ∙ get_or_default n v a 0 v_in in
    ap (λ (g : Family). first_of (get_or g.lists k [])) (sym e) ∙ first_is n h k kl (omega (arith, v_in)) ∙ sym (ap (λ (w : ℕ). cond (eqb a w) None (Some a)) s ∙ ap (λ (w : ℕ). cond (eqb w (get_or h k 0)) None (Some w)) (t ∙ ap (λ (w : ℕ). get_or n w 0) s))
