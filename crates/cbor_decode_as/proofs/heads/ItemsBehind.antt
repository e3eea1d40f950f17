-- The item at the front, by the head that is found within its tags.
use Rattle.std.proofs.Common.{◌≡◌, ◌≢◌, ℕ, zero, suc, List, Ok, Err, refl, sym, ap, subst, ◌∙◌}
use Rattle.cbor_model.specs.Formats.{Formats}
use Rattle.cbor_model.specs.Head.{HeadWidth}
use Rattle.cbor_model.specs.Raw as raw
use Rattle.cbor_model.specs.Raw.{Raw, Raws, RawPairs}
use Rattle.cbor_model.specs.Readable.{untagged}
use Rattle.cbor_model.specs.Reader.{Fault, Reads, Reading, ◌>>=◌, inside, item_at, tag_at}
use Rattle.cbor_model.proofs.facts.Reader.{ok_is}
use Rattle.cbor_decode.specs.Gives.{Limits}
use Rattle.cbor_decode.specs.Heads.{opening_at, behind_head}
use Rattle.cbor_decode.specs.declared.head.Head.{Head}
use Rattle.cbor_decode.specs.declared.head.Head.TheVariants as head
use Rattle.cbor_decode.proofs.facts.Heads.{item_opened}
use Rattle.cbor_decode_as.specs.Kinds.{head_kind, kind_of}
use Rattle.cbor_decode_as.specs.Kinds as kind
use Rattle.cbor_decode_as.specs.TaggedHeads.{HasHead, opened_at, opened_by}
use Rattle.cbor_decode_as.specs.Takes.{raws}
use Rattle.cbor_decode_as.proofs.heads.OfKind.{kinds}
use Rattle.cbor_decode_as.proofs.heads.Openings.{opened_below, opened_is}

-- an item of another kind than a tag is within no more tags
pub within_none : (r : Raw) → (kind_of r ≡ kind.tag → ⊥) → untagged r ≡ r
within_none (raw.unsigned w n) other = refl
within_none (raw.negative w n) other = refl
within_none (raw.bytes c) other = refl
within_none (raw.text c) other = refl
within_none (raw.bytes_chunks cs) other = refl
within_none (raw.text_chunks cs) other = refl
within_none (raw.array l rs) other = refl
within_none (raw.map l ps) other = refl
within_none (raw.tag w n r) other = absurd (other refl)
within_none (raw.simple x) other = refl
within_none (raw.float w bits) other = refl

module _ (f : Formats) (l : Limits) where
  abbrev m : Reading Raw Raws RawPairs
  m = raws f l

  -- What is read after this head, where so many levels are left, is what is within r's tags.
  pub record Behind (left : ℕ) (h : Head) (mid : List ℕ) (r : Raw) (rest : List ℕ) : Type 0 where
    pub width : HeadWidth
    pub item : Raw
    pub is : behind_head m (inside m left) width h mid ≡ Ok (item, rest)
    pub same : untagged r ≡ untagged item
    pub inner : head_kind h ≡ kind.tag → ⊥

  module _ (left : ℕ) (h : Head) (mid rest : List ℕ) (r : Raw) where
    here : (levels : ℕ) (w : HeadWidth) (h' : Head) (mid' : List ℕ) → (head_kind h' ≡ kind.tag → ⊥) → ◌≡◌ {A = (ℕ × Head) × List ℕ} ((levels, h'), mid') ((left, h), mid) → behind_head m (inside m levels) w h' mid' ≡ Ok (r, rest) → Behind left h mid r rest
    here levels w h' mid' inner same is = subst (λ (o : (ℕ × Head) × List ℕ). Behind o.0.0 o.0.1 o.1 r rest) same (record { width = w; item = r; is = is; same = refl; inner = inner })

    by_head : (levels : ℕ) (w : HeadWidth) (h' : Head) (mid' : List ℕ) → ((n : ℕ) → opened_by levels (opened_below levels) (head.Tag n) mid' ≡ Ok ((left, h), mid) → tag_at m (inside m levels) w n mid' ≡ Ok (r, rest) → Behind left h mid r rest)
        → opened_by levels (opened_below levels) h' mid' ≡ Ok ((left, h), mid) → behind_head m (inside m levels) w h' mid' ≡ Ok (r, rest) → Behind left h mid r rest
    by_head levels w (head.Tag n) mid' tag opened is = tag n opened is
    by_head levels w h' mid' tag opened is = here levels w h' mid' (λ e. absurd cc) (ok_is _ _ opened) is

    by_opening : (levels : ℕ) (o : Reads (HeadWidth × Head)) → ((w : HeadWidth) (n : ℕ) (mid' : List ℕ) → opened_by levels (opened_below levels) (head.Tag n) mid' ≡ Ok ((left, h), mid) → tag_at m (inside m levels) w n mid' ≡ Ok (r, rest) → Behind left h mid r rest)
        → (o >>= (λ h. opened_by levels (opened_below levels) h.0.1 h.1)) ≡ Ok ((left, h), mid) → (o >>= (λ h. behind_head m (inside m levels) h.0.0 h.0.1 h.1)) ≡ Ok (r, rest) → Behind left h mid r rest
    by_opening levels (Ok o) tag opened is = by_head levels o.0.0 o.0.1 o.1 (λ n. tag o.0.0 n o.1) opened is
    by_opening levels (Err f) tag opened is = absurd cc

    -- within a tag
    within_tag : (w : HeadWidth) (n : ℕ) (read : Reads Raw) → ((q : Raw) (more : List ℕ) → read ≡ Ok (q, more) → Behind left h mid q more) → ◌≡◌ {A = Reads Raw} (read >>= (λ x. Ok (raw.tag w n x.0, x.1))) (Ok (r, rest)) → Behind left h mid r rest
    within_tag w n (Ok x) found is =
        let b = found x.0 x.1 refl in
        subst (λ (p : Raw × List ℕ). Behind left h mid p.0 p.1) (ok_is (raw.tag w n x.0, x.1) (r, rest) is) (record { width = b.width; item = b.item; is = b.is; same = b.same; inner = b.inner })
    within_tag w n (Err f) found is = absurd cc

    begun : (levels : ℕ) (bs : List ℕ) → ((w : HeadWidth) (n : ℕ) (mid' : List ℕ) → opened_by levels (opened_below levels) (head.Tag n) mid' ≡ Ok ((left, h), mid) → tag_at m (inside m levels) w n mid' ≡ Ok (r, rest) → Behind left h mid r rest)
        → opened_at levels bs ≡ Ok ((left, h), mid) → item_at m levels bs ≡ Ok (r, rest) → Behind left h mid r rest
    begun levels bs tag opened is = by_opening levels (opening_at bs) tag (sym (opened_is levels bs) ∙ opened) (sym (item_opened m levels bs) ∙ is)

  pub item_behind : (levels left : ℕ) (h : Head) (bs mid rest : List ℕ) (r : Raw) → opened_at levels bs ≡ Ok ((left, h), mid) → item_at m levels bs ≡ Ok (r, rest) → Behind left h mid r rest
  unfolding tag_at
  item_behind zero left h bs mid rest r = begun left h mid rest r zero bs (λ w n mid' opened is. absurd cc)
  item_behind (suc levels) left h bs mid rest r =
      begun left h mid rest r (suc levels) bs (λ w n mid' opened is. within_tag left h mid rest r w n (item_at m levels mid') (λ q more. item_behind levels left h mid' mid more q opened) is)

  -- it is of the kind of that head
  pub kind_behind : (levels left : ℕ) (h : Head) (bs mid rest : List ℕ) (r : Raw) → opened_at levels bs ≡ Ok ((left, h), mid) → item_at m levels bs ≡ Ok (r, rest) → kind_of (untagged r) ≡ head_kind h
  kind_behind levels left h bs mid rest r opened is =
      let b = item_behind levels left h bs mid rest r opened is in
      let of : kind_of b.item ≡ head_kind h = kinds f l (inside m left) b.width mid h b.item rest b.is in
      let bare : untagged b.item ≡ b.item = within_none b.item (λ tag. b.inner (sym of ∙ tag)) in
      ap kind_of (b.same ∙ bare) ∙ of

-- ---- an item that is read has a head

module _ (f : Formats) (l : Limits) where
  -- what stops its head stops it
  stops_by : (levels : ℕ) (e : Fault) (o : Reads (HeadWidth × Head)) → ((w : HeadWidth) (n : ℕ) (mid : List ℕ) → opened_by levels (opened_below levels) (head.Tag n) mid ≡ Err e → tag_at (m f l) (inside (m f l) levels) w n mid ≡ Err e)
      → (o >>= (λ h. opened_by levels (opened_below levels) h.0.1 h.1)) ≡ Err e → (o >>= (λ h. behind_head (m f l) (inside (m f l) levels) h.0.0 h.0.1 h.1)) ≡ Err e
  stops_by levels e (Ok o) tag stops = by_head o.0.0 o.0.1 o.1 stops
    where
      by_head : (w : HeadWidth) (h : Head) (mid : List ℕ) → opened_by levels (opened_below levels) h mid ≡ Err e → behind_head (m f l) (inside (m f l) levels) w h mid ≡ Err e
      by_head w (head.Tag n) mid stops = tag w n mid stops
      by_head w h mid stops = absurd cc
  stops_by levels e (Err g) tag stops = same_fault g stops
    where
      same_fault : {A B : Type 0} (g : Fault) → ◌≡◌ {A = Reads A} (Err g) (Err e) → ◌≡◌ {A = Reads B} (Err g) (Err e)
      same_fault g is = cc

  begun_stops : (levels : ℕ) (bs : List ℕ) (e : Fault) → ((w : HeadWidth) (n : ℕ) (mid : List ℕ) → opened_by levels (opened_below levels) (head.Tag n) mid ≡ Err e → tag_at (m f l) (inside (m f l) levels) w n mid ≡ Err e) → opened_at levels bs ≡ Err e → item_at (m f l) levels bs ≡ Err e
  begun_stops levels bs e tag stops = item_opened (m f l) levels bs ∙ stops_by levels e (opening_at bs) tag (sym (opened_is levels bs) ∙ stops)

  unopened : (levels : ℕ) (bs : List ℕ) (e : Fault) → opened_at levels bs ≡ Err e → item_at (m f l) levels bs ≡ Err e
  unfolding tag_at
  unopened zero bs e = begun_stops zero bs e (λ w n mid stops. none_inside stops)
    where
      none_inside : {A B : Type 0} {g : Fault} → ◌≡◌ {A = Reads A} (Err g) (Err e) → ◌≡◌ {A = Reads B} (Err g) (Err e)
      none_inside is = cc
  unopened (suc left) bs e = begun_stops (suc left) bs e (λ w n mid stops. rw (unopened left mid e stops) refl)

  pub head_stands : (levels : ℕ) (bs rest : List ℕ) (r : Raw) → item_at (m f l) levels bs ≡ Ok (r, rest) → HasHead (λ h. h ≢ head.Break) levels bs
  head_stands levels bs rest r is = by (opened_at levels bs) refl
    where
      not_both : (e : Fault) → ◌≡◌ {A = Reads Raw} (Err e) (Ok (r, rest)) → ⊥
      not_both e both = absurd cc

      no_break : (left : ℕ) (h : Head) (mid : List ℕ) (b : Behind f l left h mid r rest) → h ≢ head.Break
      no_break left h mid b broken = not_item (sym (ap (λ (h : Head). behind_head (m f l) (inside (m f l) left) b.width h mid) broken) ∙ b.is)
        where
          not_item : {e : Fault} → ◌≡◌ {A = Reads Raw} (Err e) (Ok (b.item, rest)) → ⊥
          not_item both = absurd cc

      by : (o : Reads (ℕ × Head)) → opened_at levels bs ≡ o → HasHead (λ h. h ≢ head.Break) levels bs
      by (Ok o) opened = record { left = o.0.0; head = o.0.1; rest = o.1; is = opened; holds = no_break o.0.0 o.0.1 o.1 (item_behind f l levels o.0.0 o.0.1 bs o.1 rest r opened is) }
      by (Err e) opened = absurd (not_both e (sym (unopened levels bs e opened) ∙ is))
