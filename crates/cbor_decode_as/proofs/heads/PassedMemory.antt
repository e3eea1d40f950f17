-- Where memory is asked for to pass over the item at the front.
use Rattle.std.proofs.Common.{◌≡◌, ℕ, zero, suc, List, Option, Ok, Err, refl, sym, ap₂, subst, ◌∙◌}
use Rattle.cbor_model.specs.Formats.{all_formats}
use Rattle.cbor_model.specs.Head.{HeadWidth}
use Rattle.cbor_model.specs.Raw as raw
use Rattle.cbor_model.specs.Raw.{Raw, Raws, RawPairs}
use Rattle.cbor_model.specs.Reader.{Reads, Reading, ◌>>=◌, inside, item_at, tag_at}
use Rattle.cbor_model.proofs.facts.Reader.{ok_is}
use Rattle.cbor_read.specs.Source.{Asks, Input}
use Rattle.cbor_decode.specs.Gives.{Limits, limits, Step}
use Rattle.cbor_decode.specs.HasChunks.{AsksWhere, HasChunks}
use Rattle.cbor_decode.specs.Heads.{opening_at, behind_head}
use Rattle.cbor_decode.specs.declared.head.Head.{Head}
use Rattle.cbor_decode.specs.declared.head.Head.TheVariants as head
use Rattle.cbor_decode.proofs.facts.Heads.{item_opened}
use Rattle.cbor_decode.proofs.facts.Memory.{asks_on}
use Rattle.cbor_decode_as.specs.TaggedHeads.{AsksBehind, opened_at, opened_by}
use Rattle.cbor_decode_as.specs.Takes.{OfItem, raws}
use Rattle.cbor_decode_as.specs.declared.head.HeadAt.{HeadAt}
use Rattle.cbor_decode_as.proofs.heads.Openings.{opened_below, opened_is}

-- ---- after the head of an item within its tags

module _ (l : Limits) where
  abbrev m : Reading Raw Raws RawPairs
  m = raws all_formats l

  -- What is read after this head, where so many levels are left: with it r has a string in chunks.
  record Behind (left : ℕ) (h : Head) (mid : List ℕ) (r : Raw) (rest : List ℕ) : Type 0 where
    width : HeadWidth
    item : Raw
    is : behind_head m (inside m left) width h mid ≡ Ok (item, rest)
    chunks : HasChunks item → HasChunks r

  module _ (left : ℕ) (h : Head) (mid rest : List ℕ) (r : Raw) where
    here : (levels : ℕ) (w : HeadWidth) (h' : Head) (mid' : List ℕ) → ◌≡◌ {A = (ℕ × Head) × List ℕ} ((levels, h'), mid') ((left, h), mid) → behind_head m (inside m levels) w h' mid' ≡ Ok (r, rest) → Behind left h mid r rest
    here levels w h' mid' same is = subst (λ (o : (ℕ × Head) × List ℕ). Behind o.0.0 o.0.1 o.1 r rest) same (record { width = w; item = r; is = is; chunks = λ c. c })

    by_head : (levels : ℕ) (w : HeadWidth) (h' : Head) (mid' : List ℕ) → ((n : ℕ) → opened_by levels (opened_below levels) (head.Tag n) mid' ≡ Ok ((left, h), mid) → tag_at m (inside m levels) w n mid' ≡ Ok (r, rest) → Behind left h mid r rest)
        → opened_by levels (opened_below levels) h' mid' ≡ Ok ((left, h), mid) → behind_head m (inside m levels) w h' mid' ≡ Ok (r, rest) → Behind left h mid r rest
    by_head levels w (head.Tag n) mid' tag opened is = tag n opened is
    by_head levels w h' mid' tag opened is = here levels w h' mid' (ok_is _ _ opened) is

    by_opening : (levels : ℕ) (o : Reads (HeadWidth × Head)) → ((w : HeadWidth) (n : ℕ) (mid' : List ℕ) → opened_by levels (opened_below levels) (head.Tag n) mid' ≡ Ok ((left, h), mid) → tag_at m (inside m levels) w n mid' ≡ Ok (r, rest) → Behind left h mid r rest)
        → (o >>= (λ h. opened_by levels (opened_below levels) h.0.1 h.1)) ≡ Ok ((left, h), mid) → (o >>= (λ h. behind_head m (inside m levels) h.0.0 h.0.1 h.1)) ≡ Ok (r, rest) → Behind left h mid r rest
    by_opening levels (Ok o) tag opened is = by_head levels o.0.0 o.0.1 o.1 (λ n. tag o.0.0 n o.1) opened is
    by_opening levels (Err f) tag opened is = absurd cc

    -- within a tag
    within_tag : (w : HeadWidth) (n : ℕ) (read : Reads Raw) → ((q : Raw) (more : List ℕ) → read ≡ Ok (q, more) → Behind left h mid q more) → ◌≡◌ {A = Reads Raw} (read >>= (λ x. Ok (raw.tag w n x.0, x.1))) (Ok (r, rest)) → Behind left h mid r rest
    within_tag w n (Ok x) found is =
        let b = found x.0 x.1 refl in
        subst (λ (p : Raw × List ℕ). Behind left h mid p.0 p.1) (ok_is (raw.tag w n x.0, x.1) (r, rest) is) (record { width = b.width; item = b.item; is = b.is; chunks = b.chunks })
    within_tag w n (Err f) found is = absurd cc

    begun : (levels : ℕ) (bs : List ℕ) → ((w : HeadWidth) (n : ℕ) (mid' : List ℕ) → opened_by levels (opened_below levels) (head.Tag n) mid' ≡ Ok ((left, h), mid) → tag_at m (inside m levels) w n mid' ≡ Ok (r, rest) → Behind left h mid r rest)
        → opened_at levels bs ≡ Ok ((left, h), mid) → item_at m levels bs ≡ Ok (r, rest) → Behind left h mid r rest
    begun levels bs tag opened is = by_opening levels (opening_at bs) tag (sym (opened_is levels bs) ∙ opened) (sym (item_opened m levels bs) ∙ is)

  -- the item at the front is read after the head that is found
  found_behind : (levels left : ℕ) (h : Head) (bs mid rest : List ℕ) (r : Raw) → opened_at levels bs ≡ Ok ((left, h), mid) → item_at m levels bs ≡ Ok (r, rest) → Behind left h mid r rest
  unfolding tag_at
  found_behind zero left h bs mid rest r = begun left h mid rest r zero bs (λ w n mid' opened is. absurd cc)
  found_behind (suc levels) left h bs mid rest r =
      begun left h mid rest r (suc levels) bs (λ w n mid' opened is. within_tag left h mid rest r w n (item_at m levels mid') (λ q more. found_behind levels left h mid' mid more q opened) is)

-- ---- memory

module _ (a : Asks) (found : HeadAt) (levels : ℕ) (s m : Input) (opens : Step s m (λ l bs rest. opened_at levels bs ≡ Ok ((found.levels, found.head), rest))) where
  pub behind_asks : AsksBehind a found m → OfItem (λ r. AsksWhere a (HasChunks r)) all_formats levels s
  behind_asks h bs reports r rest is =
      let one = opens.reported bs reports in
      let l = limits s bs in
      let b = found_behind l levels found.levels found.head bs one.rest rest r one.holds is in
      let same : limits m one.rest ≡ l = ap₂ (λ (n : ℕ) (k : Option ℕ). record { total = n; room = k }) one.total opens.took.room in
      let there = subst (λ (i : Limits). behind_head (raws all_formats i) (inside (raws all_formats i) found.levels) b.width found.head one.rest ≡ Ok (b.item, rest)) (sym same) b.is in
      asks_on a _ (HasChunks r) (λ all. b.chunks (all b.width one.rest one.reports b.item rest there)) h
