use Rattle.std.proofs.Common.{refl}
use Rattle.clap.proofs.OnLiterals.{clap_on_literals}
use Rattle.pg_text.specs.Text.{decimal_value, number, words}
use Rattle.pg_words.specs.CommandLine.{bare_command, command, faults_in, found_in, told}
use Rattle.pg_words.specs.Examples.{RefusesNumbers, RefusesOtherOptions, RefusesUnknownAlgorithms, RefusesWords, TakesAlgorithms, TakesCommonOptions, TakesGrids, TakesWords}
use Rattle.pg_words.specs.Needs.{algorithm_in, algorithm_named, fits, fits_files, fits_task}
use Rattle.pg_words.specs.Plan.{crew_in, number_within, numbers_in, plan_as, plan_in, plan_of, search_in, size_in}
use Rattle.pg_words.proofs.laws.examples.Goals as goal

taken : TakesWords
unfolding clap_on_literals decimal_value number words bare_command command faults_in found_in told algorithm_in algorithm_named fits fits_files fits_task crew_in number_within numbers_in plan_as plan_in plan_of search_in size_in
taken = (refl, refl, refl, refl, refl)

algorithms : TakesAlgorithms
unfolding clap_on_literals decimal_value number words bare_command command faults_in found_in told algorithm_in algorithm_named fits fits_files fits_task crew_in number_within numbers_in plan_as plan_in plan_of search_in size_in
algorithms = (refl, refl, refl, refl, refl, refl)

common_options : TakesCommonOptions
unfolding clap_on_literals decimal_value number words bare_command command faults_in found_in told algorithm_in algorithm_named fits fits_files fits_task crew_in number_within numbers_in plan_as plan_in plan_of search_in size_in
common_options = (refl, refl, refl, refl, refl, refl, refl, refl, refl)

grids : TakesGrids
unfolding clap_on_literals decimal_value number words bare_command command faults_in found_in told algorithm_in algorithm_named fits fits_files fits_task crew_in number_within numbers_in plan_as plan_in plan_of search_in size_in
grids = (refl, refl, refl, refl, refl, refl, refl, refl)

refused : RefusesWords
unfolding clap_on_literals decimal_value number words bare_command command faults_in found_in told algorithm_in algorithm_named fits fits_files fits_task crew_in number_within numbers_in plan_as plan_in plan_of search_in size_in
refused = (refl, refl, refl, refl, refl, refl, refl, refl, refl, refl)

numbers : RefusesNumbers
unfolding clap_on_literals decimal_value number words bare_command command faults_in found_in told algorithm_in algorithm_named fits fits_files fits_task crew_in number_within numbers_in plan_as plan_in plan_of search_in size_in
numbers = (refl, refl, refl, refl, refl, refl, refl, refl, refl)

other_options : RefusesOtherOptions
unfolding clap_on_literals decimal_value number words bare_command command faults_in found_in told algorithm_in algorithm_named fits fits_files fits_task crew_in number_within numbers_in plan_as plan_in plan_of search_in size_in
other_options = (refl, refl, refl, refl, refl, refl, refl, refl, refl, refl, refl, refl, refl)

unknown : RefusesUnknownAlgorithms
unfolding clap_on_literals decimal_value number words bare_command command faults_in found_in told algorithm_in algorithm_named fits fits_files fits_task crew_in number_within numbers_in plan_as plan_in plan_of search_in size_in
unknown = (refl, refl)

pub returns-clause-taken : goal.returns-clause-taken
returns-clause-taken c = taken

pub returns-clause-algorithms : goal.returns-clause-algorithms
returns-clause-algorithms c = algorithms

pub returns-clause-common_options : goal.returns-clause-common_options
returns-clause-common_options c = common_options

pub returns-clause-grids : goal.returns-clause-grids
returns-clause-grids c = grids

pub returns-clause-refused : goal.returns-clause-refused
returns-clause-refused c = refused

pub returns-clause-numbers : goal.returns-clause-numbers
returns-clause-numbers c = numbers

pub returns-clause-other_options : goal.returns-clause-other_options
returns-clause-other_options c = other_options

pub returns-clause-unknown : goal.returns-clause-unknown
returns-clause-unknown c = unknown
