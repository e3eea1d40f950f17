-- What went from an input to its buffer.
use Rattle.std.proofs.Common.{◌≡◌, ℕ, ◌+◌, ◌≤◌, List, ◌++◌, length, drop, take, Option, Some, arith}
use Rattle.std.proofs.Common.{take-append-drop, length-take-le, refl, sym, ap, ◌∙◌}
use Rattle.std.proofs.lemmas.Grind.{common_steps}
use Rattle.std.proofs.lemmas.List.{drop-drop, drop-take, drop-append-le}
use Rattle.std.proofs.lemmas.Str.{utf8_valid_len-IsUtf8}
use Rattle.std.specs.Str.{IsUtf8}
use Rattle.std.specs.Str.Lossy.{utf8_valid_len}
use Rattle.cbor_read.specs.Source.{Buffered, TookBehind, Skipped, SkippedText, slice_input}

-- The bytes of a slice up to `end` went to the buffer's end.
pub appended : (bytes buffer after : List ℕ) (taken n end : ℕ) (room left : Option ℕ)
    → end ≡ taken + n → end ≤ length bytes → after ≡ buffer ++ take n (drop taken bytes)
    → left ≡ room → Buffered (slice_input bytes taken buffer room)
    (slice_input bytes end after left) n
appended bytes buffer after taken n end room left at within joined same =
    let rest = drop-drop n taken bytes in
    let parts = take-append-drop n (drop taken bytes) in
    record {
      some = take n (drop taken bytes);
      len = grind (arith, common_steps);
      bytes = cc;
      count = at;
      room = same;
      buffered = joined;
    }

-- The bytes of a slice up to `end` moved down to the end of those that stand from start on. None of
-- what is to come changed.
pub moved : (bytes after buffer : List ℕ) (taken n start joined offset end left : ℕ)
    (room : Option ℕ) → end ≡ taken + n → end ≤ length bytes → start + joined ≤ taken
    → take joined (drop start bytes) ≡ buffer
    → take (start + joined + n) after ≡ take (start + joined) bytes ++ take n (drop taken bytes)
    → drop (taken + n) after ≡ drop (taken + n) bytes → left ≡ offset + n
    → Buffered (record {
      to_come = Some (drop taken bytes);
      buffer = buffer;
      offset = offset;
      room = room;
    })
    (record {
      to_come = Some (drop end after);
      buffer = take (joined + n) (drop start after);
      offset = left;
      room = room;
    }) n
moved bytes after buffer taken n start joined offset end left room at within order was front back
    count =
    let rest = drop-drop n taken bytes in
    let parts = take-append-drop n (drop taken bytes) in
    let few : start ≤ length (take (start + joined) bytes) =
    omega (arith, length-take-le (start + joined) bytes (omega arith)) in
    let whole : start + joined + n ≡ start + (joined + n) = omega arith in
    record {
      some = take n (drop taken bytes);
      len = grind (arith, common_steps);
      bytes = cc;
      count = count;
      room = refl;
      buffered =
          sym (drop-take start (joined + n) after)
          ∙ ap (λ m. drop start (take m after)) (sym whole)
          ∙ ap (drop start) front
          ∙ drop-append-le start (take (start + joined) bytes) (take n (drop taken bytes)) few
          ∙ ap (λ l. l ++ take n (drop taken bytes)) (drop-take start joined bytes ∙ was);
    }

-- The bytes of a slice up to `end` went after other bytes, and the buffer stays.
pub behind : (bytes buffer old new : List ℕ) (before taken n end : ℕ) (room : Option ℕ)
    → end ≡ taken + n → end ≤ length bytes → new ≡ old ++ take n (drop taken bytes)
    → TookBehind (record {
      to_come = Some (drop taken bytes);
      buffer = buffer;
      offset = before + taken;
      room = room;
    })
    (record {
      to_come = Some (drop end bytes);
      buffer = buffer;
      offset = before + end;
      room = room;
    }) n old new
behind bytes buffer old new before taken n end room at within joined =
    let rest = drop-drop n taken bytes in
    let parts = take-append-drop n (drop taken bytes) in
    record {
      some = take n (drop taken bytes);
      len = grind (arith, common_steps);
      bytes = cc;
      count = omega (arith, at);
      room = refl;
      kept = refl;
      behind = joined;
    }

-- ---- what is skipped

-- all of a text is UTF-8
pub all_valid : (b : List ℕ) → IsUtf8 b → length b ≡ utf8_valid_len b
all_valid b is = sym (utf8_valid_len-IsUtf8 b is)

-- The bytes of a slice up to `end` were skipped.
pub skipped : (bytes buffer after : List ℕ) (taken n end offset left : ℕ) (room : Option ℕ)
    → end ≡ taken + n → end ≤ length bytes → left ≡ offset + n
    → Skipped (record {
      to_come = Some (drop taken bytes);
      buffer = buffer;
      offset = offset;
      room = room;
    })
    (record {
      to_come = Some (drop end bytes);
      buffer = after;
      offset = left;
      room = room;
    }) n
skipped bytes buffer after taken n end offset left room at within count =
    let rest = drop-drop n taken bytes in
    let parts = take-append-drop n (drop taken bytes) in
    record {
      some = take n (drop taken bytes);
      len = grind (arith, common_steps);
      bytes = cc;
      count = count;
      room = refl;
    }

-- The same of a text.
pub skipped_text : (bytes buffer after : List ℕ) (taken n end offset left valid : ℕ)
    (room : Option ℕ)
    → end ≡ taken + n → end ≤ length bytes → left ≡ offset + n
    → valid ≡ utf8_valid_len (take n (drop taken bytes))
    → SkippedText (record {
      to_come = Some (drop taken bytes);
      buffer = buffer;
      offset = offset;
      room = room;
    })
    (record {
      to_come = Some (drop end bytes);
      buffer = after;
      offset = left;
      room = room;
    }) n valid
skipped_text bytes buffer after taken n end offset left valid room at within count is =
    let rest = drop-drop n taken bytes in
    let parts = take-append-drop n (drop taken bytes) in
    record {
      some = take n (drop taken bytes);
      len = grind (arith, common_steps);
      utf8 = is;
      bytes = cc;
      count = count;
      room = refl;
    }
