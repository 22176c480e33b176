-- The steps of a scan.
use Rattle.std.proofs.Common.{◌≡◌, ◌≢◌, ℕ, ◌+◌, ◌-◌, ◌<◌, ◌≤◌, ◌||◌, Bool, true, false, List, [], ◌++◌, Option, length, take, drop, slice_index, MatchBool, refl, ap, sym, subst, ◌∙◌, arith, append_assoc, inl, inr}
use Rattle.std.proofs.Math.Seq.{take-append-add}
use Rattle.std.proofs.lemmas.Bool.{cases_lt}
use Rattle.std.proofs.lemmas.List.{append-nil, length-append, length-take, length-drop, take_all, take-append-drop, get_or_append_left, get_or-append_right, get_or-take, get_or-drop}
use Rattle.std.specs.Io.KnownBytes.{Consumes, Keeps}
use Rattle.smil_outside.specs.declared.line.TheConstants.{INPUT_BYTES}
use Rattle.smil_model.specs.declared.limits.TheConstants.{LINE_BYTES}
use Rattle.smil_outside.specs.Lines.{HasNoLineFeed}
use Rattle.smil_model.specs.document.Words.{line_feed}
use Rattle.smil_outside.specs.ReaderState.{within_limit}
use Rattle.smil_outside.specs.Scan.{Scans, Stops, IsCutFront}
use Rattle.smil_outside.specs.Window.{HeldBytes}
use Rattle.smil_outside.specs.declared.scan.Stop.{Stop}
use Rattle.std.proofs.KnownBytes.{Consumes-nil, Consumes-trans, Consumes-kept}

pub HasNoLineFeed-append : (xs ys : List ℕ) → HasNoLineFeed xs → HasNoLineFeed ys → HasNoLineFeed (xs ++ ys)
HasNoLineFeed-append xs ys h k = λ i inside is.
    elim (cases_lt i (length xs)) [
      | inl low ↦ h i low (sym (get_or_append_left xs ys 0 i low) ∙ is)
      | inr high ↦ k (i - length xs) (omega (arith, length-append xs ys)) (sym (get_or-append_right xs ys (length xs) i 0 refl high) ∙ is)
    ]

pub HasNoLineFeed-take : (n : ℕ) (xs : List ℕ) → HasNoLineFeed xs → HasNoLineFeed (take n xs)
HasNoLineFeed-take n xs h = λ i inside is.
    let size = length-take n xs in
    h i (omega arith) (sym (get_or-take n xs i 0 (omega arith)) ∙ is)

pub HasNoLineFeed-drop : (n : ℕ) (xs : List ℕ) → HasNoLineFeed xs → HasNoLineFeed (drop n xs)
HasNoLineFeed-drop n xs h = λ i inside is.
    h (n + i) (omega (arith, length-drop n xs)) (sym (get_or-drop n xs i 0) ∙ is)

-- how far a scan has come: what `Scans` says, before it stops
pub record ScanState (old bytes : List ℕ) (before taken : ℕ) (is_long : Bool) (scanned : ℕ) (rest now : Option (List ℕ)) : Type 0 where
  pub came : List ℕ
  pub dropped : List ℕ
  pub took : Consumes rest now came
  pub counted : taken ≡ before + length came
  pub text : old ++ within_limit before came ≡ dropped ++ bytes
  pub uncut : HasNoLineFeed dropped
  pub long : MatchBool is_long (IsCutFront dropped bytes) (dropped ≡ [])
  pub within : scanned ≤ length bytes
  pub searched : (k : ℕ) → k < scanned → slice_index bytes k ≢ line_feed

pub Scanning-start : (old : List ℕ) (before : ℕ) (rest : Option (List ℕ)) → ScanState old old before before false 0 rest rest
Scanning-start old before rest = record {
  came = [];
  dropped = [];
  took = Consumes-nil rest;
  counted = omega arith;
  text = ap (λ zs. old ++ zs) (take_all (INPUT_BYTES - before) [] (omega arith)) ∙ append-nil old;
  uncut = λ i inside is. absurd (omega arith);
  long = refl;
  within = omega arith;
  searched = λ k low is. absurd (omega arith);
}

-- while nothing was taken past the limit, what comes next counts up to the limit
within_limit-append : (before : ℕ) (came more : List ℕ) → before + length came ≤ INPUT_BYTES → within_limit before (came ++ more) ≡ within_limit before came ++ take (INPUT_BYTES - (before + length came)) more
within_limit-append before came more fits =
    let n = INPUT_BYTES - (before + length came) in
    let e : INPUT_BYTES - before ≡ length came + n = omega arith in
    ap (λ m. take m (came ++ more)) e ∙ take-append-add came more n
    ∙ ap (λ zs. zs ++ take n more) (sym (take_all (INPUT_BYTES - before) came (omega arith)))

-- bytes that follow leave the front as it is
long_grows : (b : Bool) (dropped xs ys more : List ℕ) → ys ≡ xs ++ more → MatchBool b (IsCutFront dropped xs) (dropped ≡ []) → MatchBool b (IsCutFront dropped ys) (dropped ≡ [])
long_grows true dropped xs ys more is h = record {
  many = h.many;
  some = omega (arith, h.some, ap length is, length-append xs more);
  goes_on = λ here. h.goes_on (sym (get_or_append_left xs more 0 0 h.some) ∙ ap (λ zs. slice_index zs 0) (sym is) ∙ here);
}
long_grows false dropped xs ys more is h = h

-- a read
pub Scanning-read : (old bytes : List ℕ) (before taken : ℕ) (is_long : Bool) (scanned : ℕ) (rest now after : Option (List ℕ)) (new more : List ℕ) (taken' : ℕ) →
    ScanState old bytes before taken is_long scanned rest now → taken ≤ INPUT_BYTES → taken' ≡ taken + length more → Consumes now after more →
    new ≡ bytes ++ take (INPUT_BYTES - taken) more → ScanState old new before taken' is_long scanned rest after
Scanning-read old bytes before taken is_long scanned rest now after new more taken' s fits counted took is =
    let e : before + length s.came ≡ taken = sym s.counted in
    record {
      came = s.came ++ more;
      dropped = s.dropped;
      took = Consumes-trans rest now after s.came more s.took took;
      counted = omega (arith, s.counted, counted, length-append s.came more);
      text =
          ap (λ zs. old ++ zs) (within_limit-append before s.came more (omega arith))
          ∙ sym (append_assoc old (within_limit before s.came) (take (INPUT_BYTES - (before + length s.came)) more))
          ∙ ap (λ zs. zs ++ take (INPUT_BYTES - (before + length s.came)) more) s.text
          ∙ append_assoc s.dropped bytes (take (INPUT_BYTES - (before + length s.came)) more)
          ∙ ap (λ m. s.dropped ++ (bytes ++ take (INPUT_BYTES - m) more)) e
          ∙ ap (λ zs. s.dropped ++ zs) (sym is);
      uncut = s.uncut;
      long = long_grows is_long s.dropped bytes new (take (INPUT_BYTES - taken) more) is s.long;
      within = omega (arith, s.within, ap length is, length-append bytes (take (INPUT_BYTES - taken) more));
      searched = λ k low here. s.searched k low (sym (get_or_append_left bytes (take (INPUT_BYTES - taken) more) 0 k (omega (arith, s.within))) ∙ ap (λ zs. slice_index zs k) (sym is) ∙ here);
    }

-- a failed read
pub Scanning-keeps : (old bytes : List ℕ) (before taken : ℕ) (is_long : Bool) (scanned : ℕ) (rest now after : Option (List ℕ)) →
    ScanState old bytes before taken is_long scanned rest now → Keeps now after → ScanState old bytes before taken is_long scanned rest after
Scanning-keeps old bytes before taken is_long scanned rest now after s keeps = record {
  came = s.came;
  dropped = s.dropped;
  took = Consumes-kept rest now after s.came s.took keeps;
  counted = s.counted;
  text = s.text;
  uncut = s.uncut;
  long = s.long;
  within = s.within;
  searched = s.searched;
}

-- the front of a line that is too long is dropped
drop_front_front : (old bytes new : List ℕ) (before taken : ℕ) (is_long : Bool) (scanned : ℕ) (rest now : Option (List ℕ)) →
    ScanState old bytes before taken is_long scanned rest now → HasNoLineFeed bytes →
    LINE_BYTES + 1 < length bytes → new ≡ drop (length bytes - 1) bytes → ScanState old new before taken true (length new) rest now
drop_front_front old bytes new before taken is_long scanned rest now s none long is =
    let n = length bytes - 1 in
    let size : length new ≡ 1 = ap length is ∙ length-drop n bytes ∙ omega arith in
    record {
      came = s.came;
      dropped = s.dropped ++ take n bytes;
      took = s.took;
      counted = s.counted;
      text =
          s.text
          ∙ ap (λ zs. s.dropped ++ zs) (sym (take-append-drop n bytes))
          ∙ sym (append_assoc s.dropped (take n bytes) (drop n bytes))
          ∙ ap (λ zs. (s.dropped ++ take n bytes) ++ zs) (sym is);
      uncut = HasNoLineFeed-append s.dropped (take n bytes) s.uncut (HasNoLineFeed-take n bytes none);
      long = record {
        many = omega (arith, long, length-append s.dropped (take n bytes), length-take n bytes);
        some = omega (arith, size);
        goes_on = λ here. HasNoLineFeed-drop n bytes none 0 (omega (arith, length-drop n bytes)) (ap (λ zs. slice_index zs 0) (sym is) ∙ here);
      };
      within = omega arith;
      searched = subst HasNoLineFeed (sym is) (HasNoLineFeed-drop n bytes none);
    }

-- nothing is dropped
drop_front_nothing : (old bytes new : List ℕ) (before taken : ℕ) (is_long : Bool) (scanned : ℕ) (rest now : Option (List ℕ)) →
    ScanState old bytes before taken is_long scanned rest now → HasNoLineFeed bytes → new ≡ bytes → ScanState old new before taken is_long (length new) rest now
drop_front_nothing old bytes new before taken is_long scanned rest now s none is = record {
  came = s.came;
  dropped = s.dropped;
  took = s.took;
  counted = s.counted;
  text = s.text ∙ ap (λ zs. s.dropped ++ zs) (sym is);
  uncut = s.uncut;
  long = subst (λ zs. MatchBool is_long (IsCutFront s.dropped zs) (s.dropped ≡ [])) (sym is) s.long;
  within = omega arith;
  searched = subst HasNoLineFeed (sym is) none;
}

pub Scanning-drop_front : (old : List ℕ) (held new : HeldBytes) (before taken : ℕ) (is_long went : Bool) (scanned : ℕ) (rest now : Option (List ℕ)) →
    ScanState old held.bytes before taken is_long scanned rest now → HasNoLineFeed held.bytes →
    MatchBool went ((LINE_BYTES + 1 < length held.bytes) × (new ≡ record { line = []; bytes = drop (length held.bytes - 1) held.bytes })) ((length held.bytes ≤ LINE_BYTES + 1) × (new ≡ held)) →
    ScanState old new.bytes before taken (is_long || went) (length new.bytes) rest now
Scanning-drop_front old held new before taken true false scanned rest now s none is =
    drop_front_nothing old held.bytes new.bytes before taken true scanned rest now s none (ap (λ h. h.bytes) is.1)
Scanning-drop_front old held new before taken false false scanned rest now s none is =
    drop_front_nothing old held.bytes new.bytes before taken false scanned rest now s none (ap (λ h. h.bytes) is.1)
Scanning-drop_front old held new before taken true true scanned rest now s none is =
    drop_front_front old held.bytes new.bytes before taken true scanned rest now s none is.0 (ap (λ h. h.bytes) is.1)
Scanning-drop_front old held new before taken false true scanned rest now s none is =
    drop_front_front old held.bytes new.bytes before taken false scanned rest now s none is.0 (ap (λ h. h.bytes) is.1)

-- where a scan stops
pub Scanning-stops : (old bytes : List ℕ) (before taken : ℕ) (is_long : Bool) (scanned : ℕ) (rest now : Option (List ℕ)) (stop : Stop) →
    ScanState old bytes before taken is_long scanned rest now → Stops stop bytes taken now →
    Scans old bytes before taken (record { stop = stop; is_long = is_long }) rest now
Scanning-stops old bytes before taken is_long scanned rest now stop s stops = record {
  came = s.came;
  dropped = s.dropped;
  took = s.took;
  counted = s.counted;
  text = s.text;
  uncut = s.uncut;
  long = s.long;
  stopped = stops;
}
