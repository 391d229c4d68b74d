-- A run, line by line: what is left of it begins with the step of the next line.
use Rattle.std.proofs.Common.{◌≡◌, ℕ, ◌+◌, ◌<◌, ◌≤◌, List, ◌∷◌, ◌++◌, length, drop, get_or, Option, refl, sym, ap, subst, ◌∙◌, drop-cons, add-one}
use Rattle.std.proofs.lemmas.List.{drop_all}
use Rattle.call_model.specs.declared.places.Conv.{Conv}
use Rattle.call_model.specs.declared.tables.Table.{Table}
use Rattle.call_scripts.specs.declared.script.Line.{Line}
use Rattle.lib_model.specs.declared.contents.Library.{Library}
use Rattle.lib_model.specs.Table.{table_of}
use Rattle.machine_bench.specs.declared.sight.Sight.{Sight}
use Rattle.script_meaning.specs.State.{State}
use Rattle.script_meaning.specs.Step.{Stepped, step}
use Rattle.script_meaning.specs.Transcript.{before, run_from}
use Rattle.script_stage.specs.declared.stages.Stage.{Stage}
use Rattle.script_stage.specs.Standing.{Stands}
use Rattle.call_model.specs.Tables.{HasShortLineage}
use Rattle.script_meaning.specs.Lawful.{IsLawful}
use Rattle.begun_calls.specs.Calling.{IsAt}
use Rattle.script_run.specs.Runs.{HasRun, HasRunSome, Ran, WasCutAt}
use Rattle.suited_rules.proofs.Suited.{step-suits}
use Rattle.script_run.proofs.Told.{Told, told_begun, told_cut, told_end, told_more, told_prefix}
use Rattle.xp_base.specs.Written.{Gained, GainedPrefix}

-- what the first lines have left of a whole run: a stage that stands for a state from which the
-- other lines run to its end, and the other parts of its text and of its sights
pub record Running (table : Table) (conv : Conv) (left : List Line) (whole : Stepped)
    (stage : Stage) (written now : Option (List ℕ)) (seen sees : Option (List Sight)) : Type 0 where
  pub state : State
  pub at : IsAt table stage state
  pub text : Told written now (run_from table conv state left).text whole.text
  pub sights : Told seen sees (run_from table conv state left).sights whole.sights
  pub end : (run_from table conv state left).state ≡ whole.state

pub running_begun : (table : Table) (conv : Conv) (lines : List Line) (from : State)
    (stage : Stage) (written : Option (List ℕ)) (seen : Option (List Sight))
    → IsAt table stage from
    → Running table conv lines (run_from table conv from lines) stage written written seen seen
running_begun table conv lines from stage written seen at = record {
  state = from;
  at = at;
  text = told_begun written (run_from table conv from lines).text;
  sights = told_begun seen (run_from table conv from lines).sights;
  end = refl;
}

-- the rest of the lines from a place on
pub rest_is : (lines : List Line) (i : ℕ) (line : Line) → i < length lines
    → line ≡ get_or lines i line → drop i lines ≡ line ∷ drop (i + 1) lines
rest_is lines i line lt at =
    drop-cons lines i line lt ∙ (λ k. sym at k ∷ drop (sym (add-one i) k) lines)

pub next_run : (table : Table) (conv : Conv) (state : State) (lines : List Line) (i : ℕ)
    (line : Line) → i < length lines → line ≡ get_or lines i line
    → run_from table conv state (drop i lines)
    ≡ before (step table conv state line)
    (run_from table conv (step table conv state line).state (drop (i + 1) lines))
next_run table conv state lines i line lt at =
    ap (run_from table conv state) (rest_is lines i line lt at)

-- what is left begins with the step of the next line
next_text : (table : Table) (conv : Conv) (state : State) (lines : List Line) (i : ℕ) (line : Line)
    → i < length lines → line ≡ get_or lines i line
    → (run_from table conv state (drop i lines)).text
    ≡ (step table conv state line).text
    ++ (run_from table conv (step table conv state line).state (drop (i + 1) lines)).text
next_text table conv state lines i line lt at =
    ap (λ (s : Stepped). s.text) (next_run table conv state lines i line lt at)

next_sights : (table : Table) (conv : Conv) (state : State) (lines : List Line) (i : ℕ)
    (line : Line) → i < length lines → line ≡ get_or lines i line
    → (run_from table conv state (drop i lines)).sights
    ≡ (step table conv state line).sights
    ++ (run_from table conv (step table conv state line).state (drop (i + 1) lines)).sights
next_sights table conv state lines i line lt at =
    ap (λ (s : Stepped). s.sights) (next_run table conv state lines i line lt at)

-- the stage is at the next state
pub next_at : (table : Table) (short : (n : ℕ) → HasShortLineage table n) (conv : Conv)
    (state : State) (line : Line) (stage next : Stage) (sees then : Option (List Sight))
    (text : List ℕ) → stage.machine.conv ≡ conv → IsAt table stage state
    → Ran next (record { before = sees; after = then }) text (step table conv state line)
    → IsAt table next (step table conv state line).state
next_at table short conv state line stage next sees then text same at came = record {
  stands = came.stands;
  suited = step-suits table short conv state
      (subst (λ c. IsLawful c state) same at.stands.lawful) at.suited line;
}

pub running_next : (table : Table) (short : (n : ℕ) → HasShortLineage table n) (conv : Conv) (lines : List Line) (i : ℕ) (line : Line)
    (whole : Stepped) (stage next : Stage) (written now later : Option (List ℕ))
    (seen sees then : Option (List Sight)) (text : List ℕ) → stage.machine.conv ≡ conv
    → i < length lines → line ≡ get_or lines i line
    → Running table conv (drop i lines) whole stage written now seen sees
    → ((state : State) → IsAt table stage state
    → Ran next (record { before = sees; after = then }) text (step table conv state line))
    → Gained now later text
    → Running table conv (drop (i + 1) lines) whole next written later seen then
running_next table short conv lines i line whole stage next written now later seen sees then text same lt at running ran gained =
    let came = ran running.state running.at in
    let stepped = step table conv running.state line in
    let rest = run_from table conv stepped.state (drop (i + 1) lines) in
    let texts = subst (λ left. Told written now left whole.text)
    (next_text table conv running.state lines i line lt at) running.text in
    let sights = subst (λ left. Told seen sees left whole.sights)
    (next_sights table conv running.state lines i line lt at) running.sights in
    record {
      state = stepped.state;
      at = next_at table short conv running.state line stage next sees then text same running.at came;
      text = told_more written now later stepped.text rest.text whole.text texts
          (subst (Gained now later) came.text_is gained);
      sights = told_more seen sees then stepped.sights rest.sights whole.sights sights came.saw;
      end = sym (ap (λ (s : Stepped). s.state) (next_run table conv running.state lines i line lt at)) ∙ running.end;
    }

-- where memory ran out in the next line
pub running_cut : (table : Table) (conv : Conv) (lines : List Line) (i : ℕ) (line : Line)
    (whole : Stepped) (stage : Stage) (written now : Option (List ℕ))
    (seen sees then : Option (List Sight)) → i < length lines → line ≡ get_or lines i line
    → Running table conv (drop i lines) whole stage written now seen sees
    → ((state : State) → IsAt table stage state
    → WasCutAt (record { before = sees; after = then }) (step table conv state line))
    → HasRunSome (record { before = seen; after = then }) written now whole
running_cut table conv lines i line whole stage written now seen sees then lt at running cut =
    let stepped = step table conv running.state line in
    let rest = run_from table conv stepped.state (drop (i + 1) lines) in
    let sights = subst (λ left. Told seen sees left whole.sights)
    (next_sights table conv running.state lines i line lt at) running.sights in
    record {
      gained = told_prefix written now (run_from table conv running.state (drop i lines)).text whole.text running.text;
      saw = told_cut seen sees then stepped.sights rest.sights whole.sights sights (cut running.state running.at);
    }

-- where its text was not written whole
pub running_unwritten : (table : Table) (conv : Conv) (lines : List Line) (i : ℕ) (line : Line)
    (whole : Stepped) (stage next : Stage) (written now later : Option (List ℕ))
    (seen sees then : Option (List Sight)) (text : List ℕ) → i < length lines
    → line ≡ get_or lines i line
    → Running table conv (drop i lines) whole stage written now seen sees
    → ((state : State) → IsAt table stage state
    → Ran next (record { before = sees; after = then }) text (step table conv state line))
    → GainedPrefix now later text
    → HasRunSome (record { before = seen; after = then }) written later whole
running_unwritten table conv lines i line whole stage next written now later seen sees then text lt at running ran gained =
    let came = ran running.state running.at in
    let stepped = step table conv running.state line in
    let rest = run_from table conv stepped.state (drop (i + 1) lines) in
    let texts = subst (λ left. Told written now left whole.text)
    (next_text table conv running.state lines i line lt at) running.text in
    let sights = subst (λ left. Told seen sees left whole.sights)
    (next_sights table conv running.state lines i line lt at) running.sights in
    record {
      gained = told_cut written now later stepped.text rest.text whole.text texts
          (subst (GainedPrefix now later) came.text_is gained);
      saw = told_prefix seen then rest.sights whole.sights
          (told_more seen sees then stepped.sights rest.sights whole.sights sights came.saw);
    }

-- where no line is left
pub running_end : (table : Table) (conv : Conv) (lines : List Line) (i : ℕ) (whole : Stepped)
    (stage : Stage) (written now : Option (List ℕ)) (seen sees : Option (List Sight))
    → length lines ≤ i → Running table conv (drop i lines) whole stage written now seen sees
    → HasRun stage (record { before = seen; after = sees }) written now whole
running_end table conv lines i whole stage written now seen sees past running =
    let none = drop_all i lines past in
    let texts = subst (λ left. Told written now (run_from table conv running.state left).text whole.text) none running.text in
    let sights = subst (λ left. Told seen sees (run_from table conv running.state left).sights whole.sights) none running.sights in
    let ends = subst (λ left. (run_from table conv running.state left).state ≡ whole.state) none running.end in
    record {
      stands = subst (Stands stage) ends running.at.stands;
      gained = told_end written now whole.text texts;
      saw = told_end seen sees whole.sights sights;
    }

-- ---- over the table and under the convention that a runner has

-- the next line comes to its step
abbrev pub StepsTo : Library → Conv → (stage next : Stage) → (sees then : Option (List Sight))
    → (text : List ℕ) → Line → Type 0
StepsTo lib conv stage next sees then text line =
    (state : State) → IsAt (table_of lib) stage state
    → Ran next (record { before = sees; after = then }) text (step (table_of lib) conv state line)

pub steps_as : (lib other : Library) (conv its : Conv) (stage next : Stage)
    (sees then : Option (List Sight)) (text : List ℕ) (line : Line) → other ≡ lib → its ≡ conv
    → StepsTo other its stage next sees then text line
    → StepsTo lib conv stage next sees then text line
steps_as lib other conv its stage next sees then text line same alike steps =
    subst (λ c. StepsTo lib c stage next sees then text line) alike
    (subst (λ l. StepsTo l its stage next sees then text line) same steps)

-- or it is cut short
abbrev pub CutsAt : Library → Conv → (stage : Stage) → (sees then : Option (List Sight)) → Line
    → Type 0
CutsAt lib conv stage sees then line =
    (state : State) → IsAt (table_of lib) stage state
    → WasCutAt (record { before = sees; after = then }) (step (table_of lib) conv state line)

pub cuts_as : (lib other : Library) (conv its : Conv) (stage : Stage)
    (sees then : Option (List Sight)) (line : Line) → other ≡ lib → its ≡ conv
    → CutsAt other its stage sees then line → CutsAt lib conv stage sees then line
cuts_as lib other conv its stage sees then line same alike cuts =
    subst (λ c. CutsAt lib c stage sees then line) alike
    (subst (λ l. CutsAt l its stage sees then line) same cuts)
