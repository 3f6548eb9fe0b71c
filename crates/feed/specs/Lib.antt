-- SPDX-License-Identifier: MIT OR Apache-2.0
pub mod Inputs
pub mod Lines
pub mod Failures
pub mod Outcomes
