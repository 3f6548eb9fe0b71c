-- SPDX-License-Identifier: MIT OR Apache-2.0
pub mod Reading
pub mod Readers
pub mod Cases
