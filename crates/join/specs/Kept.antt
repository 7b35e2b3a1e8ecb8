-- The code's way to keep triggers: eight rows, more than two texts have. Nothing here need be believed.
use Rattle.std.specs.Prelude.{ℕ, ◌≤◌, ◌≡◌, List, [], ◌∷◌, ◌++◌, Bool, true, false, length, Option, None, Some}
use Rattle.text.specs.Choice.{pick}
use Rattle.model.specs.Lists.{padded, conditions_of, accepted_with}
use Rattle.model.specs.declared.Condition.{Condition}
use Rattle.model.specs.declared.Conditions.{Conditions}
use Rattle.model.specs.declared.Answer.{Answer}
use Rattle.language.specs.Limits.{most_triggers}
use Rattle.model.specs.declared.Trigger.{Trigger}
use Rattle.model.specs.declared.Trigger.TheVariants.{HttpTrigger}
use Rattle.topics.specs.Ranges.{range_words}
use Rattle.model.specs.declared.Name.{Name}
use Rattle.language.specs.Topics.{topic_name}
use Rattle.compare.specs.Compare.{trigger_entry, same_entry}
use Rattle.compare.specs.declared.Entry.{Entry}
use Rattle.join.specs.Join.{Taken, text_of}
use Rattle.join.specs.declared.Kept.{Kept}
use Rattle.join.specs.declared.Topics.{Topics}

abbrev pub most_kept : ℕ
most_kept = 8

-- the kept triggers as the code holds them
unfoldable pub kept_of : List Taken → Kept
kept_of kept =
    record {
      rows = padded (λ (x : Taken). record { from = x.from; trigger = x.trigger }) (record { from = 0; trigger = HttpTrigger }) most_kept kept;
      count = length kept;
    }

-- whether an entry whose names stand in a text is among the kept triggers
unfoldable pub entry_among : List ℕ → List ℕ → List ℕ → Entry → List Taken → Bool
entry_among first second text x [] = false
entry_among first second text x (y ∷ ys) =
    pick (same_entry (text_of first second y.from) text (trigger_entry y.trigger) x) true (entry_among first second text x ys)

-- the names of the topics of triggers, and their ranges as the code holds them
unfoldable pub names_by : Option Name → List Name
names_by None = []
names_by (Some name) = name ∷ []

unfoldable pub topic_names : List Trigger → List Name
topic_names [] = []
topic_names (x ∷ xs) = names_by (topic_name x) ++ topic_names xs

unfoldable pub topics_held : List Name → Topics
topics_held names = record { words = padded (λ (n : ℕ). n) 0 most_kept (range_words names); count = length (range_words names) }

-- what is said of the list that the code holds
abbrev pub OfKept : Kept → (List Taken → Type 0) → Type 0
OfKept kept P = (l : List Taken) → kept ≡ kept_of l → P l

abbrev pub OfTopics : Topics → (List Name → Type 0) → Type 0
OfTopics topics P = (names : List Name) → topics ≡ topics_held names → P names

abbrev pub OfConditions : Conditions → (List Condition → Type 0) → Type 0
OfConditions conditions P = (ys : List Condition) → conditions ≡ conditions_of ys → P ys

-- the four rows of a list, of which so many are in use
abbrev pub Few : {A : Type 0} → List A → ℕ → Type 0
Few rows count = (length rows ≡ most_triggers) × (count ≤ most_triggers)

-- an answer whose lists are those of at most four entries each
pub record Finished (answer : Answer) : Type 0 where
  pub triggers : List Trigger
  pub conditions : List Condition
  pub lists : answer ≡ accepted_with triggers conditions
  pub few_triggers : length triggers ≤ most_triggers
  pub few_conditions : length conditions ≤ most_triggers
