-- What the power on makes of a mirror, from what it makes of both sides, over plain values.
use Rattle.std.proofs.Common.{◌≡◌, ℕ, ◌*◌, inl, inr, Bool, true, false, List, [], ◌∷◌, refl, sym, ap, ◌∙◌, subst, arith}
use Rattle.std.proofs.lemmas.Bool.{eqb-true}
use Rattle.model_geometry.specs.Geometry.{record_block}
use Rattle.model_sectors.specs.Discs.{Standing, On, Off, candidates}
use Rattle.model_sectors.specs.declared.PowerOut.{PowerOut}
use Rattle.model_sectors.specs.declared.PowerOut.TheVariants as powers
use Rattle.model_drive.specs.declared.RecordOut.{RecordOut}
use Rattle.model_drive.specs.declared.RecordOut.TheVariants as records
use Rattle.model_drive.specs.Shown.{Shown, StandsFor, block_count, capacity}
use Rattle.model_drive.specs.Power.{PowerCause, PowerStep, FindsDisc}
use Rattle.model_mirror.specs.declared.Waking.{Waking}
use Rattle.model_mirror.specs.declared.MirrorPowerOut.{MirrorPowerOut}
use Rattle.model_mirror.specs.declared.MirrorPowerOut.TheVariants as outs
use Rattle.model_mirror.specs.Leading.{Noted}
use Rattle.model_mirror.specs.Shown.{MirrorShown}
use Rattle.model_mirror.specs.Standing.{AgreesBut, HasCopy, StandsSomehow, MirrorStands}
use Rattle.model_mirror.specs.Whole.{all_apart}
use Rattle.model_mirror.specs.Powers.{WasMounted, StandsMounted, once_off, on_or_off, stays_on, is_ready_with}
use Rattle.model_mirror.proofs.Alike.{all_apart_agree}
use Rattle.model_mirror.proofs.Somehow.{power_somehow}
use Rattle.model_mirror.proofs.WriteSteps.{long_as_counted}
use Rattle.ram_mirror.specs.Powering.{once_asked, WokenSide, IsUpWith, StartsOff, StartsAs, PowersRoles}
use Rattle.ram_mirror.proofs.Woken.{power_map}

-- as many blocks as in the mount
same_count : (now mounted : Shown) → WasMounted now mounted → block_count now ≡ block_count mounted
same_count now mounted since = ap (λ shape. block_count (record now { shape = shape })) since.same_shape ∙ ap (λ l. block_count (record now { shape = mounted.shape; lists = l })) since.same_lists

since_then : (a b c : Shown) → WasMounted a b → WasMounted b c → WasMounted a c
since_then a b c one two = record {
  same_shape = one.same_shape ∙ two.same_shape;
  same_lists = one.same_lists ∙ two.same_lists;
  only = λ block others. one.only block (λ area is. subst (λ shape. ¬ (block ≡ record_block shape area)) (sym two.same_shape) (others area is)) ∙ two.only block others;
}

asked_some : (mid after : Standing → Type 0) (out : RecordOut) → ((t : Standing) → mid t → on_or_off after t) → (t : Standing) → once_asked out mid t → on_or_off after t
asked_some mid after records.Good f t so = f t so
asked_some mid after records.Lost f t so = f t so
asked_some mid after records.Cut f t so = gone mid after f t so
  where
    gone : (mid after : Standing → Type 0) → ((t : Standing) → mid t → on_or_off after t) → (t : Standing) → once_off mid t → on_or_off after t
    gone mid after f (On disc) so = elim (f (Off (disc ∷ [])) so) [ inl a ↦ inr a | inr a ↦ inr a ]
    gone mid after f (Off discs) so = f (Off discs) so
asked_some mid after records.Off f t so = gone mid after f t so
  where
    gone : (mid after : Standing → Type 0) → ((t : Standing) → mid t → on_or_off after t) → (t : Standing) → once_off mid t → on_or_off after t
    gone mid after f (On disc) so = elim (f (Off (disc ∷ [])) so) [ inl a ↦ inr a | inr a ↦ inr a ]
    gone mid after f (Off discs) so = f (Off discs) so
asked_some mid after records.Fault f t so = gone mid after f t so
  where
    gone : (mid after : Standing → Type 0) → ((t : Standing) → mid t → on_or_off after t) → (t : Standing) → once_off mid t → on_or_off after t
    gone mid after f (On disc) so = elim (f (Off (disc ∷ [])) so) [ inl a ↦ inr a | inr a ↦ inr a ]
    gone mid after f (Off discs) so = f (Off discs) so

asked_keeps : (mid : Standing → Type 0) (out : RecordOut) → stays_on out ≡ true → (t : Standing) → once_asked out mid t → mid t
asked_keeps mid records.Good on t so = so
asked_keeps mid records.Lost on t so = so
asked_keeps mid records.Cut on t so = absurd (let w = on in cc)
asked_keeps mid records.Off on t so = absurd (let w = on in cc)
asked_keeps mid records.Fault on t so = absurd (let w = on in cc)

some_of : (after : Standing → Type 0) (t : Standing) → on_or_off after t → StandsSomehow after
some_of after (On disc) (inl so) = record { standing = On disc; stands = so }
some_of after (On disc) (inr so) = record { standing = Off (disc ∷ []); stands = so }
some_of after (Off discs) (inl so) = record { standing = Off discs; stands = so }
some_of after (Off discs) (inr so) = record { standing = Off discs; stands = so }

mounted_some : (after : Standing → Type 0) (s : Standing) → StandsMounted (on_or_off after) s → StandsSomehow after
mounted_some after s it = let some = power_somehow (on_or_off after) it.mounted s it.told it.step in some_of after some.standing some.stands

module _ (mid new : MirrorShown) (here there : Waking) (lead lead₁ lead' other other₁ other' : Standing → Type 0) (to_lead : (s : Standing) → lead' s → StandsFor new.lead s) (to_other : (s : Standing) → other' s → StandsFor new.other s)
    (was now was_other now_other : Noted) (old_lead old_other : Shown) (woke : WokenSide old_lead mid.lead was now lead lead₁ here) (followed : WokenSide old_other mid.other was_other now_other other other₁ there) where
  -- a side that woke stands for what it was mounted with
  lead_mounted : ((t : Standing) → lead₁ t → on_or_off lead' t) → (s : Standing) → lead s → StandsMounted (on_or_off lead') s
  lead_mounted some s so = record { mounted = woke.cause.mounted; told = here.power; step = power_map woke.cause.mounted (once_asked here.record lead₁) (on_or_off lead') (asked_some lead₁ lead' here.record some) s here.power (woke.step s so) }

  other_mounted : ((t : Standing) → other₁ t → on_or_off other' t) → (s : Standing) → other s → StandsMounted (on_or_off other') s
  other_mounted some s so = record { mounted = followed.cause.mounted; told = there.power; step = power_map followed.cause.mounted (once_asked there.record other₁) (on_or_off other') (asked_some other₁ other' there.record some) s there.power (followed.step s so) }

  -- the other side is up: it stands for a disc as long as that of the lead
  copied : (known : ℕ) (disc : List ℕ) → lead' (On disc) → known ≡ capacity new.lead → new.table ≡ all_apart new.lead → IsUpWith lead₁ lead' other₁ other' mid new here there known → (t : Standing) → other t → HasCopy other' new.table disc
  copied known disc so known_is table up t to = go there.power refl up.ready
    where
      since : WasMounted new.other followed.cause.mounted
      since = since_then new.other mid.other followed.cause.mounted up.since (followed.since up.read)

      stepped : PowerStep followed.cause.mounted other₁ t there.power
      stepped = power_map followed.cause.mounted (once_asked there.record other₁) other₁ (asked_keeps other₁ there.record up.read) t there.power (followed.step t to)

      go : (power : PowerOut) → there.power ≡ power → is_ready_with known power ≡ true → HasCopy other' new.table disc
      go (powers.Ready k) is ready =
          let found : FindsDisc followed.cause.mounted other₁ (candidates t) = subst (PowerStep followed.cause.mounted other₁ t) is stepped in
          let cause : PowerCause old_other followed.cause.mounted (powers.Ready k) = subst (PowerCause old_other followed.cause.mounted) is followed.cause.powers in
          let equal : k ≡ known = eqb-true k known ready in
          let k_is = cause.known_is in
          let same = same_count new.other followed.cause.mounted since in
          record {
            copy = found.disc;
            stands = up.keeps (On found.disc) found.found;
            agrees = subst (λ (x : List Bool). AgreesBut x disc found.disc) (sym table) (all_apart_agree disc found.disc (block_count new.lead) (long_as_counted new.lead disc (to_lead (On disc) so))
                (long_as_counted new.other found.disc (to_other (On found.disc) (up.keeps (On found.disc) found.found)) ∙ ap (λ (n : ℕ). 32768 * n) (omega (arith, equal, k_is, known_is, same))));
          }
      go powers.NotFormatted is ready = absurd (let w = ready in cc)
      go powers.Cut is ready = absurd (let w = ready in cc)
      go powers.Fault is ready = absurd (let w = ready in cc)

  -- the mirror is off: what it stands for then
  gone : StandsSomehow other' → new.on ≡ false → (t : Standing) → on_or_off lead' t → once_off (MirrorStands new lead' other') t
  gone some off (On disc) (inl so) = (inr (record { off = off; disc = disc; one = refl; stands = so }), some)
  gone some off (On disc) (inr so) = (inl so, some)
  gone some off (Off discs) (inl so) = (inl so, some)
  gone some off (Off discs) (inr so) = (inl so, some)

  off_mounted : StartsOff lead₁ lead' other₁ other' mid new here there → (s t : Standing) → lead s → other t → StandsMounted (once_off (MirrorStands new lead' other')) s
  off_mounted starts s t so to =
      let some = mounted_some other' t (other_mounted starts.some t to) in
      let it = lead_mounted starts.some_lead s so in
      record { mounted = it.mounted; told = it.told; step = power_map it.mounted (on_or_off lead') (once_off (MirrorStands new lead' other')) (gone some starts.off) s it.told it.step }

  pub powered : (out : MirrorPowerOut) → StartsAs lead₁ lead' other₁ other' mid new here there out → (s t : Standing) → lead s → other t → PowersRoles new.lead (MirrorStands new lead' other') lead' other' s t s out
  powered (outs.Ready known) starts s t so to = record {
    leads = (
      known_is,
      record {
        mounted = woke.cause.mounted;
        since = since;
        finds = record {
          lists = found.lists;
          in_use = found.in_use;
          disc = found.disc;
          first = found.first;
          found = (
            starts.on,
            starts.keeps (On found.disc) found.found,
            record {
              some = mounted_some other' t (other_mounted starts.some t to);
              copy = λ up. copied known found.disc (starts.keeps (On found.disc) found.found) known_is starts.table (starts.up up) t to;
            },
          );
        };
      },
    );
    of_lead = lead_mounted (λ x a. inl (starts.keeps x a)) s so;
    of_other = other_mounted starts.some t to;
  }
    where
      read : stays_on here.record ≡ true
      read = ap stays_on starts.read

      since : WasMounted new.lead woke.cause.mounted
      since = since_then new.lead mid.lead woke.cause.mounted starts.since (woke.since read)

      found : FindsDisc woke.cause.mounted lead₁ (candidates s)
      found = subst (PowerStep woke.cause.mounted lead₁ s) starts.power (power_map woke.cause.mounted (once_asked here.record lead₁) lead₁ (asked_keeps lead₁ here.record read) s here.power (woke.step s so))

      known_is : known ≡ capacity new.lead
      known_is =
          let cause : PowerCause old_lead woke.cause.mounted (powers.Ready known) = subst (PowerCause old_lead woke.cause.mounted) starts.power woke.cause.powers in
          let k_is = cause.known_is in
          let same = same_count new.lead woke.cause.mounted since in
          omega (arith, k_is, same)
  powered outs.NotFormatted starts s t so to = record {
    leads = (
      starts.on,
      starts.keeps (On []) (subst (PowerStep woke.cause.mounted lead₁ s) starts.power (power_map woke.cause.mounted (once_asked here.record lead₁) lead₁ (asked_keeps lead₁ here.record (ap stays_on starts.read)) s here.power (woke.step s so))),
      record { some = mounted_some other' t (other_mounted starts.some t to); copy = λ up. absurd (let e : false ≡ true = sym starts.down ∙ up in cc) },
    );
    of_lead = lead_mounted (λ x a. inl (starts.keeps x a)) s so;
    of_other = other_mounted starts.some t to;
  }
  powered outs.Unknown starts s t so to = record { leads = tt; of_lead = lead_mounted starts.some_lead s so; of_other = other_mounted starts.some t to }
  powered outs.Cut starts s t so to = record { leads = off_mounted starts s t so to; of_lead = lead_mounted starts.some_lead s so; of_other = other_mounted starts.some t to }
  powered outs.Fault starts s t so to = record { leads = off_mounted starts s t so to; of_lead = lead_mounted starts.some_lead s so; of_other = other_mounted starts.some t to }
