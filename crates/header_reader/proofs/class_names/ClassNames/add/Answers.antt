use Rattle.std.proofs.Common.{◌≡◌, [], ◌∷◌, ◌++◌, ◌∙◌, ap, map, false}
use Rattle.std.specs.List.{list_any}
use Rattle.std.specs.Str.{bytes_eq}
use Rattle.header_reader.proofs.NameSets.{pushed}
use Rattle.header_reader.proofs.class_names.ClassNames.add.Goals as goal

pub returns : goal.returns
returns c =
    let keys = c.self.inside.names.keys in
    let copied : c.in_ok-name.name.items ≡ c.args.name.now = c.in_ok-name.ensures.items_if_clones_equal (λ x y same. same) in
    let fresh : list_any (λ n. bytes_eq n c.in_ok-name.name.items) (map (λ v. v.items) keys) ≡ false =
    ap (λ w. list_any (λ n. bytes_eq n w) (map (λ v. v.items) keys)) copied ∙ (ap (list_any (λ n. bytes_eq n c.args.name.now)) c.self.view_is ∙ c.requires) in
    ap (map (λ v. v.items)) c.in_ok-insert.ensures.keys
    ∙ (pushed (λ v. v.items) keys c.in_ok-name.name fresh
    ∙ (ap (λ w. map (λ v. v.items) keys ++ w ∷ []) copied ∙ ap (λ names. names ++ c.args.name.now ∷ []) c.self.view_is))
