-- Each form of a line for a mirror is read as what the language says, and nothing else is.
use Rattle.std.proofs.Common.{◌≡◌, ℕ, ◌*◌, inl, inr, Bool, true, false, eqb, ltb, leb, Option, Some, None, option_map, cond, Result, List, [], ◌∷◌, length, refl, sym, ◌∙◌, ap, subst, arith, codes}
use Rattle.std.specs.Option.{ok_or}
use Rattle.std.specs.Result.{MatchResult}
use Rattle.std.specs.Str.{bytes_eq}
use Rattle.std.proofs.lemmas.Bool.Decides.{nat_tests}
use Rattle.ram_report.specs.MirrorLines.{side_word}
use Rattle.ram_text.specs.ScriptWords.{without_return, IsNumber}
use Rattle.ram_text.specs.Script.{IsForm}
use Rattle.ram_text.specs.ScriptReading.{◌>>=◌, only_word, first_number, only_number, press_of, payload_of, alone, Puts}
use Rattle.ram_text.specs.Faults.{IsFault, fault_of}
use Rattle.ram_text.specs.MirrorScript.{IsCount, AreWritten, IsMirrorForm, MirrorReads}
use Rattle.ram_text.specs.MirrorReading.{side_of, mirror_form_of, for_both, on_side, single, is_count, read_of, written_of, write_of, lead_of, mirror_line_by, mirror_line_of, mirror_reading_of}
use Rattle.ram_text.specs.declared.script.Unread.{Unread}
use Rattle.ram_text.specs.declared.script.Line.{Line}
use Rattle.ram_text.specs.declared.script.Line.TheVariants as lines
use Rattle.ram_text.specs.declared.mirror.MirrorLine.{MirrorLine}
use Rattle.ram_text.specs.declared.mirror.MirrorLine.TheVariants.{Empty, Press, Power, Format, Read, Write, Resync, Lead, GiveLead, Fail, Wear, Cut}
use Rattle.ram_text.specs.declared.mirror.MirrorForm.{MirrorForm}
use Rattle.ram_text.specs.declared.mirror.MirrorForm.TheVariants as forms
use Rattle.ram_text.proofs.ScriptReadings.{bind_some, tested_some, chosen, both, some_map, number_given}
use Rattle.ram_text.proofs.ReadsBy.{some_same, pair_same, one_by, parsed_by}
use Rattle.ram_text.proofs.Forms.{named, only_found, first_found, last_found, press_found, press_given, form_found, form_given, alone_found, named_found, payload_given}
use Rattle.ram_text.proofs.Faults.{fault_reads, fault_given, fault_has_no_data}

-- the words that name the forms
abbrev form_word : MirrorForm → List ℕ
form_word forms.Press = codes "press"
form_word forms.Power = codes "power"
form_word forms.Format = codes "format"
form_word forms.Read = codes "read"
form_word forms.Write = codes "write"
form_word forms.Resync = codes "resync"
form_word forms.Lead = codes "lead"
form_word (forms.Side on_a) = side_word on_a

side_named : (word : List ℕ) (on_a : Bool) → side_of word ≡ Some on_a → word ≡ side_word on_a
side_named word on_a h =
    elim (chosen (bytes_eq word (codes "a")) true _ on_a h) [
      | inl t ↦ named side_word word (codes "a") true on_a t.0 refl t.1
      | inr t ↦ let l = tested_some (bytes_eq word (codes "b")) false on_a t.1 in
          named side_word word (codes "b") false on_a l.0 refl l.1
    ]

side_form_named : (word : List ℕ) (f : MirrorForm) → option_map forms.Side (side_of word) ≡ Some f → word ≡ form_word f
side_form_named word f h =
    let side = some_map forms.Side (side_of word) f h in
    side_named word side.0 side.1 ∙ ap form_word side.2

mirror_form_named : (word : List ℕ) (f : MirrorForm) → mirror_form_of word ≡ Some f → word ≡ form_word f
mirror_form_named word f h =
    elim (chosen (bytes_eq word (codes "press")) forms.Press _ f h) [
      | inl t ↦ named form_word word (codes "press") forms.Press f t.0 refl t.1
      | inr t ↦ elim (chosen (bytes_eq word (codes "power")) forms.Power _ f t.1) [
        | inl t ↦ named form_word word (codes "power") forms.Power f t.0 refl t.1
        | inr t ↦ elim (chosen (bytes_eq word (codes "format")) forms.Format _ f t.1) [
          | inl t ↦ named form_word word (codes "format") forms.Format f t.0 refl t.1
          | inr t ↦ elim (chosen (bytes_eq word (codes "read")) forms.Read _ f t.1) [
            | inl t ↦ named form_word word (codes "read") forms.Read f t.0 refl t.1
            | inr t ↦ elim (chosen (bytes_eq word (codes "write")) forms.Write _ f t.1) [
              | inl t ↦ named form_word word (codes "write") forms.Write f t.0 refl t.1
              | inr t ↦ elim (chosen (bytes_eq word (codes "resync")) forms.Resync _ f t.1) [
                | inl t ↦ named form_word word (codes "resync") forms.Resync f t.0 refl t.1
                | inr t ↦ elim (chosen (bytes_eq word (codes "lead")) forms.Lead _ f t.1) [
                  | inl t ↦ named form_word word (codes "lead") forms.Lead f t.0 refl t.1
                  | inr t ↦ side_form_named word f t.1
                ]
              ]
            ]
          ]
        ]
      ]
    ]

-- a line without data, whose words and whose reading are these
moved : (words words' : List (List ℕ)) (line line' : MirrorLine) → words ≡ words' → line' ≡ line → IsMirrorForm line' words' [] → IsMirrorForm line words []
moved words words' line line' same is h =
    subst (λ (ws : List (List ℕ)). IsMirrorForm line ws []) (sym same) (subst (λ (l : MirrorLine). IsMirrorForm l words' []) is h)

both_found : (one : Line) (words : List (List ℕ)) (line : MirrorLine) → for_both one ≡ Some line → IsForm words one [] → IsMirrorForm line words []
both_found (lines.Press zones scale psa) words line h form =
    subst (λ (l : MirrorLine). IsMirrorForm l words []) (some_same (Press zones scale psa) line h) form
both_found lines.Empty words line h form = cc
both_found lines.Power words line h form = cc
both_found (lines.Fail block) words line h form = cc
both_found (lines.Wear block n) words line h form = cc
both_found (lines.Cut n fate) words line h form = cc
both_found lines.Tick words line h form = cc
both_found (lines.Scrub each) words line h form = cc
both_found (lines.Command cdb) words line h form = cc

on_side_found : (on_a : Bool) (one : Line) (words : List (List ℕ)) (line : MirrorLine) → on_side on_a one ≡ Some line → IsForm words one [] → IsMirrorForm line (side_word on_a ∷ words) []
on_side_found on_a (lines.Fail block) words line h form =
    subst (λ (l : MirrorLine). IsMirrorForm l (side_word on_a ∷ words) []) (some_same (Fail on_a block) line h) (refl, form)
on_side_found on_a (lines.Wear block n) words line h form =
    subst (λ (l : MirrorLine). IsMirrorForm l (side_word on_a ∷ words) []) (some_same (Wear on_a block n) line h) (refl, form)
on_side_found on_a (lines.Cut n fate) words line h form =
    subst (λ (l : MirrorLine). IsMirrorForm l (side_word on_a ∷ words) []) (some_same (Cut on_a n fate) line h) (refl, form)
on_side_found on_a lines.Empty words line h form = cc
on_side_found on_a (lines.Press zones scale psa) words line h form = cc
on_side_found on_a lines.Power words line h form = cc
on_side_found on_a lines.Tick words line h form = cc
on_side_found on_a (lines.Scrub each) words line h form = cc
on_side_found on_a (lines.Command cdb) words line h form = cc

count_found : (word : List ℕ) (n : ℕ) → IsNumber word n → is_count n ≡ true → IsCount word n
count_found word n number test =
    let b = both (ltb 0 n) (leb n 1024) test in
    record {
      number = number;
      some = let e = b.0 in grind (arith, nat_tests);
      few = let e = b.1 in grind (arith, nat_tests);
    }

read_found : (words : List (List ℕ)) (line : MirrorLine) → read_of words ≡ Some line → IsMirrorForm line (codes "read" ∷ words) []
unfolding read_of
read_found words line h =
    let lba = bind_some (first_number words) _ line h in
    let n = bind_some (only_number lba.0.1) _ line lba.2 in
    let t = tested_some (is_count n.0) (Read lba.0.0 n.0) line n.2 in
    let a = first_found words lba.0 lba.1 in
    let b = last_found lba.0.1 n.0 n.1 in
    moved (codes "read" ∷ words) (codes "read" ∷ a.0 ∷ b.0 ∷ []) line (Read lba.0.0 n.0)
    (ap (λ ws. codes "read" ∷ ws) (a.1 ∙ ap (λ ws. a.0 ∷ ws) b.1)) t.1 (refl, a.2, count_found b.0 n.0 b.2 t.0, refl)

-- the write of some sectors, whose data two words name
with_named : (a b : List ℕ) (lba n : ℕ) (words : List (List ℕ)) (payload : List ℕ) → IsNumber a lba → IsCount b n
    → payload_of (2048 * n) words ≡ Some payload → length payload ≡ 2048 * n → IsMirrorForm (Write lba n) (codes "write" ∷ a ∷ b ∷ words) payload
unfolding payload_of
with_named a b lba n [] payload at count is whole =
    let none : [] ≡ payload = some_same [] payload is in
    let no_bytes : length payload ≡ 0 = ap length (sym none) in
    let some = count.some in
    absurd (omega (arith, whole, no_bytes, some))
with_named a b lba n (word ∷ words) payload at count is whole =
    let f = named_found (2048 * n) word words payload is in
    subst (λ (ws : List (List ℕ)). IsMirrorForm (Write lba n) (codes "write" ∷ a ∷ b ∷ word ∷ ws) payload) (sym f.1)
    (refl, at, count, record { named = f.2; whole = whole })

written_found : (a b : List ℕ) (lba n : ℕ) (words : List (List ℕ)) (line : MirrorLine) (payload : List ℕ) → IsNumber a lba → IsCount b n
    → written_of lba n words ≡ Some (line, payload) → IsMirrorForm line (codes "write" ∷ a ∷ b ∷ words) payload
unfolding written_of
written_found a b lba n words line payload at count h =
    let put = bind_some (payload_of (2048 * n) words) _ (line, payload) h in
    let t = tested_some (eqb (length put.0) (2048 * n)) (Write lba n, put.0) (line, payload) put.2 in
    let same = pair_same (Write lba n) line put.0 payload (ap Some t.1) in
    let whole : length put.0 ≡ 2048 * n = let e = t.0 in grind (arith, nat_tests) in
    subst (λ (l : MirrorLine). IsMirrorForm l (codes "write" ∷ a ∷ b ∷ words) payload) same.0
    (with_named a b lba n words payload at count (put.1 ∙ ap Some same.1) (ap length (sym same.1) ∙ whole))

write_found : (words : List (List ℕ)) (line : MirrorLine) (payload : List ℕ) → write_of words ≡ Some (line, payload) → IsMirrorForm line (codes "write" ∷ words) payload
unfolding write_of
write_found words line payload h =
    let lba = bind_some (first_number words) _ (line, payload) h in
    let n = bind_some (first_number lba.0.1) _ (line, payload) lba.2 in
    let a = first_found words lba.0 lba.1 in
    let b = first_found lba.0.1 n.0 n.1 in
    let t = tested (is_count n.0.0) (written_of lba.0.0 n.0.0 n.0.1) (line, payload) n.2 in
    subst (λ (ws : List (List ℕ)). IsMirrorForm line (codes "write" ∷ ws) payload) (sym (a.1 ∙ ap (λ ws. a.0 ∷ ws) b.1))
    (written_found a.0 b.0 lba.0.0 n.0.0 n.0.1 line payload a.2 (count_found b.0 n.0.0 b.2 t.0) t.1)
  where
    tested : {A : Type 0} (b : Bool) (o : Option A) (y : A) → cond b o None ≡ Some y → (b ≡ true) × (o ≡ Some y)
    tested true o y h = (refl, h)
    tested false o y h = cc

lead_found : (words : List (List ℕ)) (line : MirrorLine) → lead_of words ≡ Some line → IsMirrorForm line (codes "lead" ∷ words) []
unfolding lead_of
lead_found [] line h = moved (codes "lead" ∷ []) (codes "lead" ∷ []) line Lead refl (some_same Lead line h) (refl, refl)
lead_found (word ∷ words) line h =
    let side = bind_some (only_word (word ∷ words)) _ line h in
    let on_a = bind_some (side_of side.0) _ line side.2 in
    moved (codes "lead" ∷ word ∷ words) (codes "lead" ∷ side.0 ∷ []) line (GiveLead on_a.0)
    (ap (λ ws. codes "lead" ∷ ws) (only_found (word ∷ words) side.0 side.1)) (some_same (GiveLead on_a.0) line on_a.2)
    (refl, side_named side.0 on_a.0 on_a.1, refl)

-- a line of one word
single_found : (one line : MirrorLine) (words : List (List ℕ)) → single one words ≡ Some line → (words ≡ []) × (one ≡ line)
single_found one line [] h = (refl, some_same one line h)
single_found one line (word ∷ words) h = cc

without : (line : MirrorLine) (words : List (List ℕ)) (payload : List ℕ) → [] ≡ payload → IsMirrorForm line words [] → IsMirrorForm line words payload
without line words payload none h = subst (IsMirrorForm line words) none h

by_form : (f : MirrorForm) (words : List (List ℕ)) (line : MirrorLine) (payload : List ℕ) → mirror_line_by words f ≡ Some (line, payload) → IsMirrorForm line (form_word f ∷ words) payload
by_form forms.Press words line payload h =
    let a = alone_found (press_of words >>= for_both) line payload h in
    let one = bind_some (press_of words) for_both line a.0 in
    without line (codes "press" ∷ words) payload a.1 (both_found one.0 (codes "press" ∷ words) line one.2 (press_found words one.0 one.1))
by_form forms.Power words line payload h =
    let a = alone_found (single Power words) line payload h in
    let s = single_found Power line words a.0 in
    without line (codes "power" ∷ words) payload a.1 (moved (codes "power" ∷ words) (codes "power" ∷ []) line Power (ap (λ ws. codes "power" ∷ ws) s.0) s.1 (refl, refl))
by_form forms.Format words line payload h =
    let a = alone_found (single Format words) line payload h in
    let s = single_found Format line words a.0 in
    without line (codes "format" ∷ words) payload a.1 (moved (codes "format" ∷ words) (codes "format" ∷ []) line Format (ap (λ ws. codes "format" ∷ ws) s.0) s.1 (refl, refl))
by_form forms.Read words line payload h =
    let a = alone_found (read_of words) line payload h in without line (codes "read" ∷ words) payload a.1 (read_found words line a.0)
by_form forms.Write words line payload h = write_found words line payload h
by_form forms.Resync words line payload h =
    let a = alone_found (single Resync words) line payload h in
    let s = single_found Resync line words a.0 in
    without line (codes "resync" ∷ words) payload a.1 (moved (codes "resync" ∷ words) (codes "resync" ∷ []) line Resync (ap (λ ws. codes "resync" ∷ ws) s.0) s.1 (refl, refl))
by_form forms.Lead words line payload h =
    let a = alone_found (lead_of words) line payload h in without line (codes "lead" ∷ words) payload a.1 (lead_found words line a.0)
by_form (forms.Side on_a) words line payload h =
    let a = alone_found (fault_of words >>= on_side on_a) line payload h in
    let one = bind_some (fault_of words) (on_side on_a) line a.0 in
    without line (side_word on_a ∷ words) payload a.1
    (on_side_found on_a one.0 words line one.2 (form_found words one.0 [] (fault_reads words one.0 one.1).0))

-- what is read is a form
mirror_found : (words : List (List ℕ)) (line : MirrorLine) (payload : List ℕ) → mirror_line_of words ≡ Some (line, payload) → IsMirrorForm line words payload
unfolding mirror_line_of
mirror_found [] line payload h =
    let same = pair_same Empty line [] payload h in
    subst (λ (l : MirrorLine). IsMirrorForm l [] payload) same.0 (sym same.1)
mirror_found (word ∷ words) line payload h =
    let f = bind_some (mirror_form_of word) _ (line, payload) h in
    subst (λ (w : List ℕ). IsMirrorForm line (w ∷ words) payload) (sym (mirror_form_named word f.0 f.1)) (by_form f.0 words line payload f.2)

-- what is a form is read
count_given : (word : List ℕ) (n : ℕ) → IsCount word n → is_count n ≡ true
count_given word n is =
    let some : ltb 0 n ≡ true = let f = is.some in grind (arith, nat_tests) in
    let few : leb n 1024 ≡ true = let f = is.few in grind (arith, nat_tests) in
    rw (some, few) refl

read_given : (a b : List ℕ) (lba n : ℕ) → IsNumber a lba → IsCount b n → read_of (a ∷ b ∷ []) ≡ Some (Read lba n)
unfolding read_of
read_given a b lba n x y = rw (number_given a lba x, number_given b n y.number) (rw (count_given b n y) refl)

write_given : (a b c d payload : List ℕ) (lba n : ℕ) → IsNumber a lba → IsCount b n → AreWritten n c d payload → write_of (a ∷ b ∷ c ∷ d ∷ []) ≡ Some (Write lba n, payload)
unfolding write_of written_of
write_given a b c d payload lba n x y z =
    let whole : eqb (length payload) (2048 * n) ≡ true = let e = z.whole in grind (arith, nat_tests) in
    rw (number_given a lba x, number_given b n y.number) (rw (count_given b n y, payload_given (2048 * n) c d payload z.named) (rw whole refl))

side_given : (on_a : Bool) → side_of (side_word on_a) ≡ Some on_a
side_given true = refl
side_given false = refl

side_form_given : (on_a : Bool) → mirror_form_of (side_word on_a) ≡ Some (forms.Side on_a)
side_form_given true = refl
side_form_given false = refl

-- behind the word of a form
behind : (word text : List ℕ) (words : List (List ℕ)) → word ≡ text → mirror_line_of (word ∷ words) ≡ mirror_line_of (text ∷ words)
behind word text words is = ap (λ w. mirror_line_of (w ∷ words)) is

on_side_given : (on_a : Bool) (side : List ℕ) (words : List (List ℕ)) (one : Line) (line : MirrorLine) (payload : List ℕ) → on_side on_a one ≡ Some line → IsFault one
    → side ≡ side_word on_a → IsForm words one payload → mirror_line_of (side ∷ words) ≡ Some (line, payload)
unfolding mirror_line_of
on_side_given on_a side words one line payload is fault named form =
    let reads = form_given words one payload form in
    let none = fault_has_no_data words one payload reads fault in
    let given = fault_given words one (reads ∙ ap (λ p. Some (one, p)) (sym none)) fault in
    behind side (side_word on_a) words named ∙ ap (λ f. f >>= mirror_line_by words) (side_form_given on_a)
    ∙ ap (λ o. alone (o >>= on_side on_a)) given ∙ ap alone is ∙ ap (λ p. Some (line, p)) none

mirror_given : (line : MirrorLine) (words : List (List ℕ)) (payload : List ℕ) → IsMirrorForm line words payload → mirror_line_of words ≡ Some (line, payload)
unfolding mirror_line_of lead_of
mirror_given Empty [] payload h = ap (λ p. Some (Empty, p)) (sym h)
mirror_given (Press zones scale psa) (word ∷ a ∷ b ∷ c ∷ []) payload h =
    behind word (codes "press") (a ∷ b ∷ c ∷ []) h.0 ∙ ap (λ o. alone (o >>= for_both)) (press_given a b c zones scale psa h.1 h.2 h.3)
    ∙ ap (λ p. Some (Press zones scale psa, p)) (sym h.4)
mirror_given Power (word ∷ []) payload h = behind word (codes "power") [] h.0 ∙ ap (λ p. Some (Power, p)) (sym h.1)
mirror_given Format (word ∷ []) payload h = behind word (codes "format") [] h.0 ∙ ap (λ p. Some (Format, p)) (sym h.1)
mirror_given (Read lba n) (word ∷ a ∷ b ∷ []) payload h =
    behind word (codes "read") (a ∷ b ∷ []) h.0 ∙ ap alone (read_given a b lba n h.1 h.2) ∙ ap (λ p. Some (Read lba n, p)) (sym h.3)
mirror_given (Write lba n) (word ∷ a ∷ b ∷ c ∷ d ∷ []) payload h =
    behind word (codes "write") (a ∷ b ∷ c ∷ d ∷ []) h.0 ∙ write_given a b c d payload lba n h.1 h.2 h.3
mirror_given Resync (word ∷ []) payload h = behind word (codes "resync") [] h.0 ∙ ap (λ p. Some (Resync, p)) (sym h.1)
mirror_given Lead (word ∷ []) payload h = behind word (codes "lead") [] h.0 ∙ ap (λ p. Some (Lead, p)) (sym h.1)
mirror_given (GiveLead on_a) (word ∷ side ∷ []) payload h =
    behind word (codes "lead") (side ∷ []) h.0 ∙ ap (λ o. alone (o >>= λ s. Some (GiveLead s))) (ap side_of h.1 ∙ side_given on_a)
    ∙ ap (λ p. Some (GiveLead on_a, p)) (sym h.2)
mirror_given (Fail on_a block) (side ∷ words) payload h =
    on_side_given on_a side words (lines.Fail block) (Fail on_a block) payload refl tt h.0 h.1
mirror_given (Wear on_a block n) (side ∷ words) payload h =
    on_side_given on_a side words (lines.Wear block n) (Wear on_a block n) payload refl tt h.0 h.1
mirror_given (Cut on_a n fate) (side ∷ words) payload h =
    on_side_given on_a side words (lines.Cut n fate) (Cut on_a n fate) payload refl tt h.0 h.1
mirror_given _ _ payload h = absurd h

-- a line has at most one reading
pub one_mirror_reading : (line : List ℕ) (a b : MirrorLine) (p q : List ℕ) → MirrorReads line a p → MirrorReads line b q → (a ≡ b) × (p ≡ q)
one_mirror_reading = one_by Empty (λ words read payload. IsMirrorForm read words payload) mirror_line_of mirror_found (λ words read payload h. mirror_given read words payload h)

-- what was read is what the line means, and a line that was not read means nothing
pub mirror_parsed : (o : Option MirrorLine) (line body payload : List ℕ) (r : Result MirrorLine Unread) (unread : Unread) → body ≡ without_return line → Puts (mirror_reading_of body) o payload → r ≡ ok_or o unread
    → MatchResult r (λ read. MirrorReads line read payload) (λ _. ((read : MirrorLine) (bytes : List ℕ) → ¬ MirrorReads line read bytes) × (payload ≡ []))
mirror_parsed = parsed_by Empty (λ words read payload. IsMirrorForm read words payload) mirror_line_of mirror_found (λ words read payload h. mirror_given read words payload h)
