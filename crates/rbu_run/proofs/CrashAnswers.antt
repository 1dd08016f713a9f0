-- What the status of an answer says of crashes.
use Rattle.std.proofs.Common.{◌≡◌, ◌≢◌, ◌⊎◌, ℕ, List, IfSome, sym, ap, ◌∙◌, subst, inl, inr, arith}
use Rattle.common_spec.specs.Told.{Leads}
use Rattle.common_spec.specs.ToldLaws.{Leads-same, Leads-weaken, IfSome-led}
use Rattle.file_spec.specs.declared.FileName.TheVariants.{Target}
use Rattle.file_spec.specs.Records.{Record, IsImage, Every, shown_files}
use Rattle.file_spec.specs.Trails.{Trail}
use Rattle.file_spec.specs.TrailsLaws.{images-since, Passes-none}
use Rattle.update_spec.specs.declared.Outcome.TheVariants.{Done, KeyPresent, Refused}
use Rattle.update_spec.specs.declared.Answer.{Answer}
use Rattle.update_spec.specs.declared.Answer.TheVariants.{Usage, Ended, Printed, Fault, NoMemory}
use Rattle.update_spec.specs.Text.{answer_status}
use Rattle.update_spec.specs.Update.{SeesOldOrNew}
use Rattle.update_spec.specs.Crashes.{LeavesOldOrNew, LeavesNoMore, HasShownNames, HasShownFile}
use Rattle.update_spec.specs.Words.{AsksUpdate, AsksQuestion}
use Rattle.small_spec.specs.SmallUpdate.{small_inserts}
use Rattle.rbu_disk.specs.declared.disk.Disk as disk
use Rattle.rbu_disk.specs.declared.sink.Sink as sink
use Rattle.rbu_run.specs.Commands.{EndsCommand}
use Rattle.rbu_run.specs.Crash.{MomentsShow, IsStableAnswer}
use Rattle.rbu_run.specs.Status.{HasEnded, IsOfUpdate}
use Rattle.rbu_run.specs.Told.{IsTold}
use Rattle.rbu_run.proofs.Answering.{ended-update, ended-question}
use Rattle.rbu_run.proofs.Survivals.{rests-shows}

-- each image since the start
MomentsShow-old_or_new : (a b : Trail) → MomentsShow a b → LeavesOldOrNew small_inserts a b
MomentsShow-old_or_new a b shows keeps left image =
    images-since (SeesOldOrNew small_inserts (shown_files a.now.at)) a b (λ files here. inl (keeps files here)) (shows keeps) left image

-- behind an outcome and behind lines the names are stable, and behind a done update the target
ended-shown_names : (answer : Answer) (r : Record) → HasEnded (answer_status answer) → IsStableAnswer answer r → HasShownNames r
ended-shown_names Usage r (inl e) stable = absurd (omega (arith, e))
ended-shown_names Usage r (inr (inl e)) stable = absurd (omega (arith, e))
ended-shown_names Usage r (inr (inr e)) stable = absurd (omega (arith, e))
ended-shown_names (Ended Done) r ended stable = stable.0
ended-shown_names (Ended (KeyPresent table id)) r ended stable = stable
ended-shown_names (Ended (Refused refusal)) r ended stable = stable
ended-shown_names (Printed text) r ended stable = stable
ended-shown_names (Fault file call) r (inl e) stable = absurd (omega (arith, e))
ended-shown_names (Fault file call) r (inr (inl e)) stable = absurd (omega (arith, e))
ended-shown_names (Fault file call) r (inr (inr e)) stable = absurd (omega (arith, e))
ended-shown_names NoMemory r (inl e) stable = absurd (omega (arith, e))
ended-shown_names NoMemory r (inr (inl e)) stable = absurd (omega (arith, e))
ended-shown_names NoMemory r (inr (inr e)) stable = absurd (omega (arith, e))

done-shown_target : (answer : Answer) (r : Record) → IsOfUpdate answer → answer_status answer ≡ 0 → IsStableAnswer answer r → HasShownFile Target r
done-shown_target Usage r other zero stable = absurd other
done-shown_target (Ended Done) r other zero stable = stable.1
done-shown_target (Ended (KeyPresent table id)) r other zero stable = absurd (omega (arith, zero))
done-shown_target (Ended (Refused refusal)) r other zero stable = absurd (omega (arith, zero))
done-shown_target (Printed text) r other zero stable = absurd other
done-shown_target (Fault file call) r other zero stable = absurd (omega (arith, zero))
done-shown_target NoMemory r other zero stable = absurd (omega (arith, zero))

module _ {D : Type 0} {d : disk.Ghosts D} (salt : ℕ × ℕ) (words : List (List ℕ)) (before after : D) (answer : Answer) (ends : EndsCommand d salt words before after answer) where
  pub images-old_or_new : Leads (LeavesOldOrNew small_inserts) (d.trail before) (d.trail after)
  images-old_or_new = by ends
    where
      still : after ≡ before → Leads (LeavesOldOrNew small_inserts) (d.trail before) (d.trail after)
      still idle = Leads-same (ap d.trail idle) (λ a. MomentsShow-old_or_new a a (λ keeps. Passes-none (Every (SeesOldOrNew small_inserts (shown_files a.now.at))) a))

      by : EndsCommand d salt words before after answer → Leads (LeavesOldOrNew small_inserts) (d.trail before) (d.trail after)
      by (inl update) = Leads-weaken update.1.crash (λ a b survives. MomentsShow-old_or_new a b survives.moments)
      by (inr (inl question)) = Leads-weaken question.1.crash (λ a b rests. MomentsShow-old_or_new a b (rests-shows a b rests.moments))
      by (inr (inr (inl more))) = still more.2
      by (inr (inr (inr usage))) = still usage.2

  -- a dump and a check leave no image that could not be left before
  pub images-no_more : AsksQuestion words → Leads LeavesNoMore (d.trail before) (d.trail after)
  images-no_more asks =
      Leads-weaken (ended-question salt words before after answer asks ends).crash (λ a b rests. images-since (IsImage a.now.at) a b (λ files here. here) rests.moments)

  module _ {O : Type 0} {o : sink.Ghosts O} (x y : O) (status : ℕ) (told : IsTold o answer x y status) where
    -- a status below 8 is the answer's
    told-answer_status : status ≢ 8 → status ≡ answer_status answer
    told-answer_status other = by told
      where
        by : IsTold o answer x y status → status ≡ answer_status answer
        by (inl line) = line.0
        by (inr failed) = absurd (other failed.0)

    ended-not_eight : HasEnded status → status ≢ 8
    ended-not_eight (inl e) eight = omega (arith, e, eight)
    ended-not_eight (inr (inl e)) eight = omega (arith, e, eight)
    ended-not_eight (inr (inr e)) eight = omega (arith, e, eight)

    stable-names : HasEnded status → (r : Record) → IsStableAnswer answer r → HasShownNames r
    stable-names ended r stable = ended-shown_names answer r (subst HasEnded (told-answer_status (ended-not_eight ended)) ended) stable

    pub told-names : AsksUpdate words ⊎ AsksQuestion words → HasEnded status → IfSome (d.trail after) (λ t. HasShownNames t.now.at)
    told-names (inl asks) ended = IfSome-led _ (ended-update salt words before after answer asks ends).crash (λ a b survives. stable-names ended b.now.at survives.end)
    told-names (inr asks) ended = IfSome-led _ (ended-question salt words before after answer asks ends).crash (λ a b rests. stable-names ended b.now.at rests.end)

    pub told-target : AsksUpdate words → status ≡ 0 → IfSome (d.trail after) (λ t. HasShownFile Target t.now.at)
    told-target asks zero =
        let update = ended-update salt words before after answer asks ends in
        IfSome-led _ update.crash (λ a b survives. done-shown_target answer b.now.at update.of_update (sym (told-answer_status (λ eight. omega (arith, zero, eight))) ∙ zero) survives.end)
