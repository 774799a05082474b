-- Each form of a line is read as what the language says, and nothing else is.
use Rattle.std.proofs.Common.{◌≡◌, ℕ, ◌<◌, inl, inr, true, false, ltb, Option, Some, None, Result, List, [], ◌∷◌, refl, sym, ◌∙◌, ap, subst, arith, codes}
use Rattle.std.specs.Option.{ok_or}
use Rattle.std.specs.Result.{MatchResult}
use Rattle.std.specs.Str.{bytes_eq}
use Rattle.std.proofs.lemmas.Bool.Decides.{nat_tests}
use Rattle.std.proofs.lemmas.Slice.Eq.{bytes_eq-Decides}
use Rattle.model_commands.specs.Commands.{out_length_of}
use Rattle.model_medium.specs.declared.Fate.{Fate}
use Rattle.model_medium.specs.declared.Fate.TheVariants.{Old, New, Torn}
use Rattle.ram_text.specs.ScriptWords.{without_return, IsNumber}
use Rattle.ram_text.specs.Script.{Reads, IsForm, IsCommandBlock, AreNamed, fate_word, filled, counted_up}
use Rattle.ram_text.specs.ScriptReading.{◌>>=◌, number_of, hex_byte_of, command_block_of, only_word, first_number, only_number, fate_of, payload_kind, form_of, press_of, power_of, fail_of, wear_of, cut_of, tick_of, scrub_of, payload_by, payload_of, command_of, alone, line_by, line_of, reading_of, Puts}
use Rattle.ram_text.specs.declared.script.Unread.{Unread}
use Rattle.ram_text.specs.declared.script.Line.{Line}
use Rattle.ram_text.specs.declared.script.Line.TheVariants.{Empty, Press, Power, Fail, Wear, Cut, Tick, Scrub, Command}
use Rattle.ram_text.specs.declared.script.Form.{Form}
use Rattle.ram_text.specs.declared.script.Form.TheVariants as forms
use Rattle.ram_text.specs.declared.payload.Kind.{Kind}
use Rattle.ram_text.specs.declared.payload.Kind.TheVariants as kinds
use Rattle.ram_text.proofs.ReadsBy.{pair_same, reads_found, reads_given, one_by, parsed_by}
use Rattle.ram_text.proofs.ScriptReadings.{bind_some, tested_some, chosen, some_map, number_found, number_given, hex_found, hex_given, byte_found, byte_given, block_found, block_given}

-- the words that name the forms
abbrev form_word : Form → List ℕ
form_word forms.Press = codes "press"
form_word forms.Power = codes "power"
form_word forms.Fail = codes "fail"
form_word forms.Wear = codes "wear"
form_word forms.Cut = codes "cut"
form_word forms.Tick = codes "tick"
form_word forms.Scrub = codes "scrub"
form_word forms.Command = codes "cdb"

-- the words that name the kinds of data
abbrev kind_word : Kind → List ℕ
kind_word kinds.Fill = codes "fill"
kind_word kinds.Count = codes "count"
kind_word kinds.Hex = codes "hex"

-- a word that passed the test, as the name of what it chose
pub named : {A : Type 0} (word_for : A → List ℕ) (word text : List ℕ) (x y : A) → bytes_eq word text ≡ true → text ≡ word_for x → x ≡ y → word ≡ word_for y
named word_for word text x y test is same = (bytes_eq-Decides word text).0 test ∙ is ∙ ap word_for same

form_named : (word : List ℕ) (f : Form) → form_of word ≡ Some f → word ≡ form_word f
form_named word f h =
    elim (chosen (bytes_eq word (codes "press")) forms.Press _ f h) [
      | inl t ↦ named form_word word (codes "press") forms.Press f t.0 refl t.1
      | inr t ↦ elim (chosen (bytes_eq word (codes "power")) forms.Power _ f t.1) [
        | inl t ↦ named form_word word (codes "power") forms.Power f t.0 refl t.1
        | inr t ↦ elim (chosen (bytes_eq word (codes "fail")) forms.Fail _ f t.1) [
          | inl t ↦ named form_word word (codes "fail") forms.Fail f t.0 refl t.1
          | inr t ↦ elim (chosen (bytes_eq word (codes "wear")) forms.Wear _ f t.1) [
            | inl t ↦ named form_word word (codes "wear") forms.Wear f t.0 refl t.1
            | inr t ↦ elim (chosen (bytes_eq word (codes "cut")) forms.Cut _ f t.1) [
              | inl t ↦ named form_word word (codes "cut") forms.Cut f t.0 refl t.1
              | inr t ↦ elim (chosen (bytes_eq word (codes "tick")) forms.Tick _ f t.1) [
                | inl t ↦ named form_word word (codes "tick") forms.Tick f t.0 refl t.1
                | inr t ↦ elim (chosen (bytes_eq word (codes "scrub")) forms.Scrub _ f t.1) [
                  | inl t ↦ named form_word word (codes "scrub") forms.Scrub f t.0 refl t.1
                  | inr t ↦ let l = tested_some (bytes_eq word (codes "cdb")) forms.Command f t.1 in
                      named form_word word (codes "cdb") forms.Command f l.0 refl l.1
                ]
              ]
            ]
          ]
        ]
      ]
    ]

kind_named : (word : List ℕ) (k : Kind) → payload_kind word ≡ Some k → word ≡ kind_word k
kind_named word k h =
    elim (chosen (bytes_eq word (codes "fill")) kinds.Fill _ k h) [
      | inl t ↦ named kind_word word (codes "fill") kinds.Fill k t.0 refl t.1
      | inr t ↦ elim (chosen (bytes_eq word (codes "count")) kinds.Count _ k t.1) [
        | inl t ↦ named kind_word word (codes "count") kinds.Count k t.0 refl t.1
        | inr t ↦ let l = tested_some (bytes_eq word (codes "hex")) kinds.Hex k t.1 in
            named kind_word word (codes "hex") kinds.Hex k l.0 refl l.1
      ]
    ]

fate_named : (word : List ℕ) (f : Fate) → fate_of word ≡ Some f → word ≡ fate_word f
fate_named word f h =
    elim (chosen (bytes_eq word (codes "old")) Old _ f h) [
      | inl t ↦ named fate_word word (codes "old") Old f t.0 refl t.1
      | inr t ↦ elim (chosen (bytes_eq word (codes "new")) New _ f t.1) [
        | inl t ↦ named fate_word word (codes "new") New f t.0 refl t.1
        | inr t ↦ let l = tested_some (bytes_eq word (codes "torn")) Torn f t.1 in
            named fate_word word (codes "torn") Torn f l.0 refl l.1
      ]
    ]

fate_given : (word : List ℕ) (f : Fate) → word ≡ fate_word f → fate_of word ≡ Some f
fate_given word Old h = ap fate_of h
fate_given word New h = ap fate_of h
fate_given word Torn h = ap fate_of h

-- the only word, and the first number
pub only_found : (words : List (List ℕ)) (word : List ℕ) → only_word words ≡ Some word → words ≡ word ∷ []
only_found [] word h = cc
only_found (w ∷ []) word h = cc
only_found (w ∷ v ∷ words) word h = cc

pub first_found : (words : List (List ℕ)) (found : ℕ × List (List ℕ)) → first_number words ≡ Some found → (word : List ℕ) × (words ≡ word ∷ found.1) × IsNumber word found.0
first_found [] found h = cc
first_found (word ∷ words) found h =
    let f = some_map (λ (n : ℕ). (n, words)) (number_of word) found h in
    (word, ap (λ (p : ℕ × List (List ℕ)). word ∷ p.1) f.2, subst (λ (p : ℕ × List (List ℕ)). IsNumber word p.0) f.2 (number_found word f.0 f.1))

pub last_found : (words : List (List ℕ)) (n : ℕ) → only_number words ≡ Some n → (word : List ℕ) × (words ≡ word ∷ []) × IsNumber word n
last_found words n h =
    let f = bind_some (only_word words) number_of n h in
    (f.0, only_found words f.0 f.1, number_found f.0 n f.2)

-- a form, of words and of a line that are these
moved : (word : List ℕ) (words words' : List (List ℕ)) (line line' : Line) → words ≡ words' → Some line' ≡ Some line → IsForm (word ∷ words') line' [] → IsForm (word ∷ words) line []
moved word words words' line line' same is h =
    let l : line' ≡ line = cc in
    subst (λ (ws : List (List ℕ)). IsForm (word ∷ ws) line []) (sym same) (subst (λ (l : Line). IsForm (word ∷ words') l []) l h)

pub press_found : (words : List (List ℕ)) (line : Line) → press_of words ≡ Some line → IsForm (codes "press" ∷ words) line []
unfolding press_of
press_found words line h =
    let zones = bind_some (first_number words) _ line h in
    let scale = bind_some (first_number zones.0.1) _ line zones.2 in
    let psa = bind_some (only_number scale.0.1) _ line scale.2 in
    let a = first_found words zones.0 zones.1 in
    let b = first_found zones.0.1 scale.0 scale.1 in
    let c = last_found scale.0.1 psa.0 psa.1 in
    moved (codes "press") words (a.0 ∷ b.0 ∷ c.0 ∷ []) line (Press zones.0.0 scale.0.0 psa.0) (a.1 ∙ ap (λ ws. a.0 ∷ ws) (b.1 ∙ ap (λ ws. b.0 ∷ ws) c.1)) psa.2 (refl, a.2, b.2, c.2, refl)

power_found : (words : List (List ℕ)) (line : Line) → power_of words ≡ Some line → IsForm (codes "power" ∷ words) line []
unfolding power_of
power_found [] line h = moved (codes "power") [] [] line Power refl h (refl, refl)
power_found (w ∷ words) line h = cc

fail_found : (words : List (List ℕ)) (line : Line) → fail_of words ≡ Some line → IsForm (codes "fail" ∷ words) line []
unfolding fail_of
fail_found words line h =
    let block = bind_some (only_number words) _ line h in
    let a = last_found words block.0 block.1 in
    moved (codes "fail") words (a.0 ∷ []) line (Fail block.0) a.1 block.2 (refl, a.2, refl)

wear_found : (words : List (List ℕ)) (line : Line) → wear_of words ≡ Some line → IsForm (codes "wear" ∷ words) line []
unfolding wear_of
wear_found words line h =
    let block = bind_some (first_number words) _ line h in
    let n = bind_some (only_number block.0.1) _ line block.2 in
    let t = tested_some (ltb 0 n.0) (Wear block.0.0 n.0) line n.2 in
    let a = first_found words block.0 block.1 in
    let b = last_found block.0.1 n.0 n.1 in
    let some : 0 < n.0 = let e = t.0 in grind (arith, nat_tests) in
    moved (codes "wear") words (a.0 ∷ b.0 ∷ []) line (Wear block.0.0 n.0) (a.1 ∙ ap (λ ws. a.0 ∷ ws) b.1) (ap Some t.1) (refl, a.2, b.2, some, refl)

cut_found : (words : List (List ℕ)) (line : Line) → cut_of words ≡ Some line → IsForm (codes "cut" ∷ words) line []
unfolding cut_of
cut_found words line h =
    let n = bind_some (first_number words) _ line h in
    let word = bind_some (only_word n.0.1) _ line n.2 in
    let fate = bind_some (fate_of word.0) _ line word.2 in
    let t = tested_some (ltb 0 n.0.0) (Cut n.0.0 fate.0) line fate.2 in
    let a = first_found words n.0 n.1 in
    let b = only_found n.0.1 word.0 word.1 in
    let some : 0 < n.0.0 = let e = t.0 in grind (arith, nat_tests) in
    moved (codes "cut") words (a.0 ∷ word.0 ∷ []) line (Cut n.0.0 fate.0) (a.1 ∙ ap (λ ws. a.0 ∷ ws) b) (ap Some t.1) (refl, a.2, some, fate_named word.0 fate.0 fate.1, refl)

tick_found : (words : List (List ℕ)) (line : Line) → tick_of words ≡ Some line → IsForm (codes "tick" ∷ words) line []
unfolding tick_of
tick_found [] line h = moved (codes "tick") [] [] line Tick refl h (refl, refl)
tick_found (w ∷ words) line h = cc

scrub_found : (words : List (List ℕ)) (line : Line) → scrub_of words ≡ Some line → IsForm (codes "scrub" ∷ words) line []
unfolding scrub_of
scrub_found [] line h = moved (codes "scrub") [] [] line (Scrub false) refl h (refl, refl)
scrub_found (w ∷ []) line h =
    let t = tested_some (bytes_eq w (codes "all")) (Scrub true) line h in
    moved (codes "scrub") (w ∷ []) (w ∷ []) line (Scrub true) refl (ap Some t.1) (refl, (bytes_eq-Decides w (codes "all")).0 t.0, refl)
scrub_found (w ∷ v ∷ words) line h = cc

-- the data of each kind
payload_found : (due : ℕ) (word digits : List ℕ) (k : Kind) (payload : List ℕ) → word ≡ kind_word k → payload_by due digits k ≡ Some payload → AreNamed due word digits payload
payload_found due word digits kinds.Fill payload is h =
    let byte = bind_some (hex_byte_of digits) _ payload h in
    let same : filled byte.0 due ≡ payload = cc (byte.2) in
    inl (record { named = is; byte = byte.0; digits_are = byte_found digits byte.0 byte.1; payload_is = sym same })
payload_found due word digits kinds.Count payload is h =
    let byte = bind_some (hex_byte_of digits) _ payload h in
    let same : counted_up byte.0 due ≡ payload = cc (byte.2) in
    inr (inl (record { named = is; byte = byte.0; digits_are = byte_found digits byte.0 byte.1; payload_is = sym same }))
payload_found due word digits kinds.Hex payload is h =
    inr (inr (record { named = is; digits_are = hex_found digits payload h }))

-- the data that two words name
pub named_found : (due : ℕ) (word : List ℕ) (words : List (List ℕ)) (payload : List ℕ) → payload_of due (word ∷ words) ≡ Some payload
    → (digits : List ℕ) × (words ≡ digits ∷ []) × AreNamed due word digits payload
unfolding payload_of
named_found due word words payload h =
    let digits = bind_some (only_word words) _ payload h in
    let k = bind_some (payload_kind word) _ payload digits.2 in
    (digits.0, only_found words digits.0 digits.1, payload_found due word digits.0 k.0 payload (kind_named word k.0 k.1) k.2)

command_by : (word cdb : List ℕ) (words : List (List ℕ)) (payload : List ℕ) → IsCommandBlock word cdb → payload_of (out_length_of cdb) words ≡ Some payload → IsForm (codes "cdb" ∷ word ∷ words) (Command cdb) payload
unfolding payload_of
command_by word cdb [] payload block h = let same : [] ≡ payload = cc in (refl, block, sym same)
command_by word cdb (kind ∷ words) payload block h =
    let named = named_found (out_length_of cdb) kind words payload h in
    subst (λ (ws : List (List ℕ)). IsForm (codes "cdb" ∷ word ∷ kind ∷ ws) (Command cdb) payload) (sym named.1) (refl, block, named.2)

command_found : (words : List (List ℕ)) (line : Line) (payload : List ℕ) → command_of words ≡ Some (line, payload) → IsForm (codes "cdb" ∷ words) line payload
unfolding command_of
command_found [] line payload h = cc
command_found (word ∷ words) line payload h =
    let cdb = bind_some (command_block_of word) _ (line, payload) h in
    let put = bind_some (payload_of (out_length_of cdb.0) words) _ (line, payload) cdb.2 in
    let same = pair_same (Command cdb.0) line put.0 payload put.2 in
    let l : Command cdb.0 ≡ line = same.0 in
    let p : put.0 ≡ payload = same.1 in
    subst (λ (x : Line). IsForm (codes "cdb" ∷ word ∷ words) x payload) l
    (subst (λ (x : List ℕ). IsForm (codes "cdb" ∷ word ∷ words) (Command cdb.0) x) p (command_by word cdb.0 words put.0 (block_found word cdb.0 cdb.1) put.1))

-- a line that has no data
pub alone_found : {L : Type 0} (o : Option L) (line : L) (payload : List ℕ) → alone o ≡ Some (line, payload) → (o ≡ Some line) × ([] ≡ payload)
alone_found None line payload h = cc
alone_found (Some l) line payload h = let same = pair_same l line [] payload h in (ap Some same.0, same.1)

without : (word : List ℕ) (words : List (List ℕ)) (line : Line) (payload : List ℕ) → [] ≡ payload → IsForm (word ∷ words) line [] → IsForm (word ∷ words) line payload
without word words line payload none h = subst (IsForm (word ∷ words) line) none h

by_form : (f : Form) (words : List (List ℕ)) (line : Line) (payload : List ℕ) → line_by words f ≡ Some (line, payload) → IsForm (form_word f ∷ words) line payload
by_form forms.Press words line payload h = let a = alone_found (press_of words) line payload h in without (codes "press") words line payload a.1 (press_found words line a.0)
by_form forms.Power words line payload h = let a = alone_found (power_of words) line payload h in without (codes "power") words line payload a.1 (power_found words line a.0)
by_form forms.Fail words line payload h = let a = alone_found (fail_of words) line payload h in without (codes "fail") words line payload a.1 (fail_found words line a.0)
by_form forms.Wear words line payload h = let a = alone_found (wear_of words) line payload h in without (codes "wear") words line payload a.1 (wear_found words line a.0)
by_form forms.Cut words line payload h = let a = alone_found (cut_of words) line payload h in without (codes "cut") words line payload a.1 (cut_found words line a.0)
by_form forms.Tick words line payload h = let a = alone_found (tick_of words) line payload h in without (codes "tick") words line payload a.1 (tick_found words line a.0)
by_form forms.Scrub words line payload h = let a = alone_found (scrub_of words) line payload h in without (codes "scrub") words line payload a.1 (scrub_found words line a.0)
by_form forms.Command words line payload h = command_found words line payload h

-- what is read is a form
pub form_found : (words : List (List ℕ)) (line : Line) (payload : List ℕ) → line_of words ≡ Some (line, payload) → IsForm words line payload
unfolding line_of
form_found [] line payload h =
    let same = pair_same Empty line [] payload h in
    subst (λ (x : Line). IsForm [] x payload) same.0 (sym same.1)
form_found (word ∷ words) line payload h =
    let f = bind_some (form_of word) _ (line, payload) h in
    subst (λ (w : List ℕ). IsForm (w ∷ words) line payload) (sym (form_named word f.0 f.1)) (by_form f.0 words line payload f.2)

-- what is a form is read
pub press_given : (a b c : List ℕ) (zones scale psa : ℕ) → IsNumber a zones → IsNumber b scale → IsNumber c psa → press_of (a ∷ b ∷ c ∷ []) ≡ Some (Press zones scale psa)
unfolding press_of
press_given a b c zones scale psa x y z = rw (number_given a zones x, number_given b scale y, number_given c psa z) refl

fail_given : (a : List ℕ) (block : ℕ) → IsNumber a block → fail_of (a ∷ []) ≡ Some (Fail block)
unfolding fail_of
fail_given a block x = rw (number_given a block x) refl

wear_given : (a b : List ℕ) (block n : ℕ) → IsNumber a block → IsNumber b n → 0 < n → wear_of (a ∷ b ∷ []) ≡ Some (Wear block n)
unfolding wear_of
wear_given a b block n x y some =
    let test : ltb 0 n ≡ true = grind (arith, nat_tests) in
    rw (number_given a block x, number_given b n y, test) refl

cut_given : (a b : List ℕ) (n : ℕ) (fate : Fate) → IsNumber a n → 0 < n → b ≡ fate_word fate → cut_of (a ∷ b ∷ []) ≡ Some (Cut n fate)
unfolding cut_of
cut_given a b n fate x some is =
    let test : ltb 0 n ≡ true = grind (arith, nat_tests) in
    rw (number_given a n x, fate_given b fate is, test) refl

pub payload_given : (due : ℕ) (word digits payload : List ℕ) → AreNamed due word digits payload → payload_of due (word ∷ digits ∷ []) ≡ Some payload
unfolding payload_of
payload_given due word digits payload (inl is) =
    ap (λ w. payload_kind w >>= payload_by due digits) is.named
    ∙ ap (λ o. o >>= λ byte. Some (filled byte due)) (byte_given digits is.byte is.digits_are) ∙ ap Some (sym is.payload_is)
payload_given due word digits payload (inr (inl is)) =
    ap (λ w. payload_kind w >>= payload_by due digits) is.named
    ∙ ap (λ o. o >>= λ byte. Some (counted_up byte due)) (byte_given digits is.byte is.digits_are) ∙ ap Some (sym is.payload_is)
payload_given due word digits payload (inr (inr is)) =
    ap (λ w. payload_kind w >>= payload_by due digits) is.named ∙ hex_given digits payload is.digits_are

-- behind the word of a form
behind : (word text : List ℕ) (words : List (List ℕ)) → word ≡ text → line_of (word ∷ words) ≡ line_of (text ∷ words)
behind word text words is = ap (λ w. line_of (w ∷ words)) is

pub form_given : (words : List (List ℕ)) (line : Line) (payload : List ℕ) → IsForm words line payload → line_of words ≡ Some (line, payload)
unfolding line_of power_of tick_of scrub_of command_of payload_of
form_given [] Empty payload h = ap (λ p. Some (Empty, p)) (sym h)
form_given (word ∷ []) Power payload h = behind word (codes "power") [] h.0 ∙ ap (λ p. Some (Power, p)) (sym h.1)
form_given (word ∷ []) Tick payload h = behind word (codes "tick") [] h.0 ∙ ap (λ p. Some (Tick, p)) (sym h.1)
form_given (word ∷ []) (Scrub false) payload h = behind word (codes "scrub") [] h.0 ∙ ap (λ p. Some (Scrub false, p)) (sym h.1)
form_given (word ∷ a ∷ []) (Scrub true) payload h =
    behind word (codes "scrub") (a ∷ []) h.0 ∙ ap (λ w. alone (scrub_of (w ∷ []))) h.1 ∙ ap (λ p. Some (Scrub true, p)) (sym h.2)
form_given (word ∷ a ∷ []) (Fail block) payload h =
    behind word (codes "fail") (a ∷ []) h.0 ∙ ap alone (fail_given a block h.1) ∙ ap (λ p. Some (Fail block, p)) (sym h.2)
form_given (word ∷ a ∷ []) (Command cdb) payload h =
    behind word (codes "cdb") (a ∷ []) h.0 ∙ rw (block_given a cdb h.1) (ap (λ p. Some (Command cdb, p)) (sym h.2))
form_given (word ∷ a ∷ b ∷ []) (Wear block n) payload h =
    behind word (codes "wear") (a ∷ b ∷ []) h.0 ∙ ap alone (wear_given a b block n h.1 h.2 h.3) ∙ ap (λ p. Some (Wear block n, p)) (sym h.4)
form_given (word ∷ a ∷ b ∷ []) (Cut n fate) payload h =
    behind word (codes "cut") (a ∷ b ∷ []) h.0 ∙ ap alone (cut_given a b n fate h.1 h.2 h.3) ∙ ap (λ p. Some (Cut n fate, p)) (sym h.4)
form_given (word ∷ a ∷ b ∷ c ∷ []) (Press zones scale psa) payload h =
    behind word (codes "press") (a ∷ b ∷ c ∷ []) h.0 ∙ ap alone (press_given a b c zones scale psa h.1 h.2 h.3) ∙ ap (λ p. Some (Press zones scale psa, p)) (sym h.4)
form_given (word ∷ a ∷ b ∷ c ∷ []) (Command cdb) payload h =
    behind word (codes "cdb") (a ∷ b ∷ c ∷ []) h.0 ∙ rw (block_given a cdb h.1) (ap (λ o. o >>= λ p. Some (Command cdb, p)) (payload_given (out_length_of cdb) b c payload h.2))
form_given _ _ payload h = absurd h

-- the whole line
pub line_found : (line : List ℕ) (read : Line) (payload : List ℕ) → reading_of (without_return line) ≡ Some (read, payload) → Reads line read payload
line_found = reads_found Empty IsForm line_of form_found form_given

pub line_given : (line : List ℕ) (read : Line) (payload : List ℕ) → Reads line read payload → reading_of (without_return line) ≡ Some (read, payload)
line_given = reads_given Empty IsForm line_of form_found form_given

-- a line has at most one reading
pub one_reading : (line : List ℕ) (a b : Line) (p q : List ℕ) → Reads line a p → Reads line b q → (a ≡ b) × (p ≡ q)
one_reading = one_by Empty IsForm line_of form_found form_given

-- what was read is what the line means, and a line that was not read means nothing
pub parsed : (o : Option Line) (line body payload : List ℕ) (r : Result Line Unread) (unread : Unread) → body ≡ without_return line → Puts (reading_of body) o payload → r ≡ ok_or o unread
    → MatchResult r (λ read. Reads line read payload) (λ _. ((read : Line) (bytes : List ℕ) → ¬ Reads line read bytes) × (payload ≡ []))
parsed = parsed_by Empty IsForm line_of form_found form_given
