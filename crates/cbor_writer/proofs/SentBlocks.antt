-- What was sent of a block, and what the writer has of a document.
use Rattle.std.proofs.Common.{◌≡◌, ℕ, ◌+◌, ◌-◌, ◌≤◌, List, [], ◌∷◌, ◌++◌, length, take, drop}
use Rattle.std.proofs.Common.{Option, Some, None, refl, sym, ap, subst, ◌∙◌, arith}
use Rattle.std.proofs.Common.{append-nil, append_assoc, length-append, length-take, take_all}
use Rattle.std.proofs.Common.{Result, Ok, Err, OnOk}
use Rattle.std.proofs.lemmas.List.{drop-drop, drop_all, drop-append-le, length-drop}
use Rattle.std.proofs.lemmas.List.{length-take-le, take-append-drop, take-append-le, take-take}
use Rattle.std.proofs.Math.Seq.{take-append_seam, drop-append_seam}
use Rattle.std.proofs.KnownBytes.{Appends-nil, Appends-trans}
use lib.Seq.{take-add}
use Rattle.std.proofs.lemmas.Slice.{between_is, take-put_mid}
use borrow.Rule.Slice.PartMut.{put_mid}
use Rattle.std.specs.Io.KnownBytes.{Appends, Keeps, append_known}
use Rattle.cbor_io.specs.Write.{AppendsBeginning, Wrote}
use Rattle.cbor_writer.specs.GivenByBlocks.{given}

-- ---- the block

-- a piece was put behind what was held
pub held_more : (b piece : List ℕ) (from held k n : ℕ) → from ≤ held → held ≤ length b
    → n ≡ held + length piece
    → drop from (take n (put_mid held k b piece)) ≡ drop from (take held b) ++ piece
held_more b piece from held k n order within ends =
    ap (drop from) (take-put_mid held k b piece n ends within)
    ∙ drop-append-le from (take held b) piece (omega (arith, length-take-le held b within))

-- of what was to be sent n bytes were, and then the rest
pub sent_more : (b lent : List ℕ) (from held n : ℕ) → lent ≡ b
    → drop from (take held b)
    ≡ take n (take (held - from) (drop from lent)) ++ drop (from + n) (take held b)
sent_more b lent from held n same =
    sym (take-append-drop n (drop from (take held b)))
    ∙ ap (λ l. l ++ drop n (drop from (take held b))) (ap (λ l. take n l)
    (sym (between_is b from held) ∙ ap (λ l. take (held - from) (drop from l)) (sym same)))
    ∙ ap (λ l. take n (take (held - from) (drop from lent)) ++ l) (drop-drop n from (take held b))

-- all was sent
pub all_sent : (b lent : List ℕ) (from held n : ℕ) → lent ≡ b
    → n ≡ length (take (held - from) (drop from lent)) → drop (from + n) (take held b) ≡ []
all_sent b lent from held n same all =
    let part = ap (λ l. take (held - from) (drop from l)) same ∙ between_is b from held in
    drop_all (from + n) (take held b)
    (omega (arith, all, ap length part, length-drop from (take held b)))

-- nothing is held
pub none_left : (b : List ℕ) (from held : ℕ) → held ≤ from → drop from (take held b) ≡ []
none_left b from held ends = drop_all from (take held b) (omega (arith, length-take held b))

-- ---- a piece

-- more of it was written, behind its front
pub front_grown : (a b c : Option (List ℕ)) (xs : List ℕ) (done n : ℕ)
    → n ≤ length (take (length xs - done) (drop done xs)) → Appends a b (take done xs)
    → Appends b c (take n (take (length xs - done) (drop done xs)))
    → Appends a c (take (done + n) xs)
front_grown a b c xs done n fits before more =
    let most = length-take (length xs - done) (drop done xs) in
    let joined : take done xs ++ take n (take (length xs - done) (drop done xs))
    ≡ take (done + n) xs =
    ap (λ l. take done xs ++ l)
    (take-take n (length xs - done) (drop done xs) (omega (arith, most)))
    ∙ sym (take-add done n xs) in
    subst (Appends a c) joined (Appends-trans a b c _ _ before more)

-- what stays grows by nothing
kept_grows : (a b : Option (List ℕ)) → Keeps a b → Appends a b []
kept_grows None b kept = tt
kept_grows (Some x) None kept = absurd kept
kept_grows (Some x) (Some y) kept = kept ∙ sym (append-nil x)

-- Where a call says that all was written, all of it was.
pub wrote_front : {T E : Type 0} (a b : Option (List ℕ)) (piece : List ℕ) (n : ℕ)
    (r : Result T E) → OnOk r (n ≡ length piece) → Appends a b (take n piece) → Wrote a piece b r
wrote_front a b piece n (Ok x) all p =
    record { ok = subst (Appends a b) (take_all n piece (omega (arith, all))) p; err = tt }
wrote_front a b piece n (Err e) all p =
    record {
      ok = tt;
      err = record {
        front = take n piece;
        rest = drop n piece;
        whole = take-append-drop n piece;
        written = p;
      };
    }

-- Where a step before it fails, nothing of it was written.
pub wrote_none : {T E : Type 0} (a b : Option (List ℕ)) (piece : List ℕ) (e : E) → Keeps a b
    → Wrote {T = T} a piece b (Err e)
wrote_none a b piece e kept =
    record {
      ok = tt;
      err = record {
        front = [];
        rest = piece;
        whole = refl;
        written = kept_grows a b kept;
      };
    }

-- A piece is written behind what stays.
pub wrote_behind : {T E : Type 0} (a b c : Option (List ℕ)) (piece : List ℕ) (r : Result T E)
    → Keeps a b → Wrote b piece c r → Wrote a piece c r
wrote_behind a b c piece (Ok x) kept w =
    record { ok = Appends-trans a b c [] piece (kept_grows a b kept) w.ok; err = tt }
wrote_behind a b c piece (Err e) kept w =
    let p = w.err in
    record {
      ok = tt;
      err = record {
        front = p.front;
        rest = p.rest;
        whole = p.whole;
        written = Appends-trans a b c [] p.front (kept_grows a b kept) p.written;
      };
    }

-- ---- a writer, and what isn't sent

pub nothing_held : (a : Option (List ℕ)) → append_known a [] ≡ a
nothing_held None = refl
nothing_held (Some x) = ap Some (append-nil x)

-- where nothing is held, the writer takes a piece
pub passed_on : (a b c : Option (List ℕ)) (left bs : List ℕ) → Keeps a (append_known b left)
    → left ≡ [] → Appends b c bs → Appends a (append_known c left) bs
passed_on None b c left bs p none q = tt
passed_on (Some x) None c left bs p none q = absurd p
passed_on (Some x) (Some y) None left bs p none q = absurd q
passed_on (Some x) (Some y) (Some z) left bs p none q =
    let same = sym (append-nil y) ∙ ap (λ l. y ++ l) (sym none) ∙ p in
    ap (λ l. z ++ l) none ∙ append-nil z ∙ q ∙ ap (λ l. l ++ bs) same

-- ---- what the sink was given

-- a piece is held
pub given_more : (c : Option (List ℕ)) (sent : ℕ) (unsent more piece : List ℕ)
    → more ≡ unsent ++ piece → Appends (given c sent unsent) (given c sent more) piece
given_more None sent unsent more piece is = tt
given_more (Some has) sent unsent more piece is =
    ap (λ l. (length has - sent) ∷ (has ++ l)) is
    ∙ ap (λ l. (length has - sent) ∷ l) (sym (append_assoc has unsent piece))

-- as many are its writer's before as there were
same_before : (has now part : List ℕ) (sent n : ℕ) → now ≡ has ++ part → n ≡ length part
    → length now - (sent + n) ≡ length has - sent
same_before has now part sent n is long =
    let whole = ap length is ∙ length-append has part in
    omega (arith, whole, long)

-- a front of what is held was sent
pub given_sent : (c new : Option (List ℕ)) (sent n : ℕ) (unsent part left : List ℕ)
    → n ≡ length part → part ++ left ≡ unsent → Appends c new part
    → Keeps (given c sent unsent) (given new (sent + n) left)
given_sent None new sent n unsent part left long whole p = tt
given_sent (Some has) None sent n unsent part left long whole p = absurd p
given_sent (Some has) (Some now) sent n unsent part left long whole p =
    ap (λ k. k ∷ (now ++ left)) (same_before has now part sent n p long)
    ∙ ap (λ l. (length has - sent) ∷ l)
    (ap (λ l. l ++ left) p ∙ append_assoc has part left ∙ ap (λ l. has ++ l) whole)

-- where nothing is held, the writer takes a piece
pub given_past : (c new : Option (List ℕ)) (sent n : ℕ) (none part : List ℕ) → none ≡ []
    → n ≡ length part → Appends c new part
    → Appends (given c sent none) (given new (sent + n) []) part
given_past None new sent n none part empty long p = tt
given_past (Some has) None sent n none part empty long p = absurd p
given_past (Some has) (Some now) sent n none part empty long p =
    ap (λ k. k ∷ (now ++ [])) (same_before has now part sent n p long)
    ∙ ap (λ l. (length has - sent) ∷ l)
    (append-nil now ∙ p
    ∙ ap (λ l. l ++ part) (sym (append-nil has) ∙ ap (λ l. has ++ l) (sym empty)))

-- ---- what the writer has

cons_head : (x y : ℕ) (xs ys : List ℕ) → (x ∷ xs) ≡ (y ∷ ys) → x ≡ y
cons_head x y xs ys e = cc

cons_tail : (x y : ℕ) (xs ys : List ℕ) → (x ∷ xs) ≡ (y ∷ ys) → xs ≡ ys
cons_tail x y xs ys e = cc

-- What was there stays in front where what was sent and the rest are that and these bytes.
front_stays : (has now rest gave : List ℕ) → now ++ rest ≡ has ++ gave → length has ≤ length now
    → AppendsBeginning gave (Some has) (Some now)
front_stays has now rest gave all long =
    record {
      front = drop (length has) now;
      rest = rest;
      whole = sym (drop-append-le (length has) now rest long)
          ∙ ap (drop (length has)) all ∙ drop-append_seam has gave;
      written = sym (take-append-drop (length has) now)
          ∙ ap (λ l. l ++ drop (length has) now)
          (sym (take-append-le (length has) now rest long)
          ∙ ap (take (length has)) all ∙ take-append_seam has gave);
    }

-- Of what the sink was given the writer has a front, behind what it had.
pub has_front : (c now new : Option (List ℕ)) (sent : ℕ) (unsent gave part rest : List ℕ)
    → Appends (given c 0 []) (given now sent unsent) gave → Appends now new part
    → part ++ rest ≡ unsent → AppendsBeginning gave c new
has_front None now new sent unsent gave part rest a b whole =
    record { front = []; rest = gave; whole = refl; written = tt }
has_front (Some had) None new sent unsent gave part rest a b whole = absurd a
has_front (Some had) (Some has) None sent unsent gave part rest a b whole = absurd b
has_front (Some had) (Some has) (Some now) sent unsent gave part rest a b whole =
    let before = cons_head _ _ _ _ a in
    let all = cons_tail _ _ _ _ a in
    let longer = ap length b ∙ length-append has part in
    front_stays had now rest gave
    (ap (λ l. l ++ rest) b ∙ append_assoc has part rest ∙ ap (λ l. has ++ l) whole ∙ all
    ∙ ap (λ l. l ++ gave) (append-nil had))
    (omega (arith, before, longer))

-- all of it
has_all : (c now new : Option (List ℕ)) (sent : ℕ) (unsent gave : List ℕ)
    → Appends (given c 0 []) (given now sent unsent) gave → Appends now new unsent
    → Appends c new gave
has_all None now new sent unsent gave a b = tt
has_all (Some had) None new sent unsent gave a b = absurd a
has_all (Some had) (Some has) None sent unsent gave a b = absurd b
has_all (Some had) (Some has) (Some now) sent unsent gave a b =
    b ∙ cons_tail _ _ _ _ a ∙ ap (λ l. l ++ gave) (append-nil had)

-- ---- and then what was held is sent

-- a front of a front
widened : (c new : Option (List ℕ)) (front rest bytes : List ℕ) → front ++ rest ≡ bytes
    → AppendsBeginning front c new → AppendsBeginning bytes c new
widened c new front rest bytes whole a =
    record {
      front = a.front;
      rest = a.rest ++ rest;
      whole = sym (append_assoc a.front a.rest rest) ∙ ap (λ l. l ++ rest) a.whole ∙ whole;
      written = a.written;
    }

module _ (c now new : Option (List ℕ)) (sent : ℕ) (unsent bytes : List ℕ) {E : Type 0} where
  -- of a front of the bytes the writer has a front
  pub beginning_through : {U : Type 0} (r : Result U E)
      → AppendsBeginning bytes (given c 0 []) (given now sent unsent) → Wrote now unsent new r
      → AppendsBeginning bytes c new
  beginning_through (Ok x) a b =
      widened c new a.front a.rest bytes a.whole
      (has_front c now new sent unsent a.front unsent [] a.written b.ok (append-nil unsent))
  beginning_through (Err e) a b =
      let p = b.err in
      widened c new a.front a.rest bytes a.whole
      (has_front c now new sent unsent a.front p.front p.rest a.written p.written p.whole)

  -- of all of them the writer has all, or a front
  pub through : {U : Type 0} (r : Result U E) → Appends (given c 0 []) (given now sent unsent) bytes
      → Wrote now unsent new r → Wrote c bytes new r
  through (Ok x) a b = record { ok = has_all c now new sent unsent bytes a b.ok; err = tt }
  through (Err e) a b =
      let all : AppendsBeginning bytes (given c 0 []) (given now sent unsent) =
      record { front = bytes; rest = []; whole = append-nil bytes; written = a } in
      record { ok = tt; err = beginning_through (Err e) all b }

-- Where nothing more is sent, the writer has a front of what was given.
pub beginning_held : (c now : Option (List ℕ)) (sent : ℕ) (unsent bytes : List ℕ)
    → AppendsBeginning bytes (given c 0 []) (given now sent unsent) → AppendsBeginning bytes c now
beginning_held c now sent unsent bytes a =
    widened c now a.front a.rest bytes a.whole
    (has_front c now now sent unsent a.front [] unsent a.written (Appends-nil now) refl)

pub begun : {T E : Type 0} (a b : Option (List ℕ)) (bytes : List ℕ) (e : E)
    → AppendsBeginning bytes a b → Wrote {T = T} a bytes b (Err e)
begun a b bytes e some = record { ok = tt; err = some }
